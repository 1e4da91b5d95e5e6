-- Lists behind lists.
use Rattle.std.proofs.Common.{◌≡◌, ℕ, List, ◌++◌, append_assoc, ap, ◌∙◌}

pub three_added : (a b c d x y z : List ℕ) → b ≡ a ++ x → c ≡ b ++ y → d ≡ c ++ z → d ≡ a ++ (x ++ y ++ z)
three_added a b c d x y z first second third =
    third
    ∙ ap (λ l. l ++ z) (second ∙ ap (λ l. l ++ y) first ∙ append_assoc a x y)
    ∙ append_assoc a (x ++ y) z
