-- Parentheses at the front of bytes that the byte behind tells apart from all else.
use Rattle.std.proofs.Common.{◌≡◌, refl, Ok, slice_index}
use Rattle.ps_scan.specs.declared.token.Kind.TheVariants as k
use Rattle.ps_scan.specs.Scanner.{front, symbol, pair, single, token_of}
use Rattle.ps_scan.specs.Tables.{Bytes}

pub front_closing : (bs : Bytes) → slice_index bs 0 ≡ 41 → front bs ≡ Ok (token_of 1 k.RightParen)
unfolding front symbol pair single
front_closing bs first = rw first refl

pub front_opening : (bs : Bytes) → slice_index bs 0 ≡ 40 → slice_index bs 1 ≡ 40
    → front bs ≡ Ok (token_of 1 k.LeftParen)
unfolding front symbol pair single
front_opening bs first second = rw (first, second) refl
