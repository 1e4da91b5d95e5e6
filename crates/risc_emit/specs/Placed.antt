-- Where labels lead, by the marks of a draft. A label that leads nowhere has place 0.
use Rattle.std.specs.Prelude.{◌≡◌, ℕ, ◌+◌, ◌<◌, ◌≤◌, List, [], ◌++◌, length, slice_get, Option, Some, None}
use Rattle.risc_image.specs.declared.header.TheConstants.{MAX_COUNT}
use Rattle.risc_machine_laws.specs.View.{IsAt}
use Rattle.risc_emit_relation.specs.Context.{Context}
use Rattle.risc_emit_forms.specs.Pieces.{Label, label_place, instr_at}
use Rattle.risc_emit.specs.declared.pieces.Piece.{Piece}
use Rattle.risc_emit.specs.Meant.{meant}
use Rattle.risc_emit.specs.declared.marks.Mark.{Mark}
use Rattle.risc_emit.specs.declared.marks.Marks.{Marks}
use Rattle.risc_emit.specs.Layout.{laid_out}

abbrev pub site_of : Option Mark → ℕ
site_of None = 0
site_of (Some mark) = mark.site

abbrev pub text_of : Option Mark → ℕ
text_of None = 0
text_of (Some mark) = mark.text

abbrev pub mark_in : Option Marks → ℕ → Option Mark
mark_in None place = None
mark_in (Some marks) place = slice_get marks.places.items place

abbrev pub entry_of : Option Marks → ℕ
entry_of None = 0
entry_of (Some marks) = marks.entry

-- the first word of an instruction
abbrev pub site_at : List Marks → ℕ → ℕ → ℕ
site_at marks routine place = site_of (mark_in (slice_get marks routine) place)

-- the first word of an instruction's constant among the words of all constants
abbrev pub text_at : List Marks → ℕ → ℕ → ℕ
text_at marks routine place = text_of (mark_in (slice_get marks routine) place)

-- the first word of a routine
abbrev pub entry_at : List Marks → ℕ → ℕ
entry_at marks routine = entry_of (slice_get marks routine)

-- the first word of a constant, where the constants' words begin with this one
abbrev pub constant_at : List Marks → ℕ → ℕ → ℕ → ℕ
constant_at marks constants routine place = constants + text_at marks routine place

-- These places. Which instruction a piece is depends on nothing else, so the code is empty here.
abbrev pub placed : List Marks → ℕ → Context
placed marks constants =
    record (laid_out (record { program = []; run_time = []; objects = [] }) []) {
      site = site_at marks;
      entry = entry_at marks;
      constant = constant_at marks constants;
    }

-- every label leads to a word of the greatest code, or to its end
abbrev pub AreNear : List Marks → ℕ → Type 0
AreNear marks constants = (label : Label) → label_place (placed marks constants) label ≤ MAX_COUNT

-- the words of the first n pieces
pub record AreWordsTo (c : Context) (pieces : List Piece) (n : ℕ) (words : List ℕ) : Type 0 where
  pub count : length words ≡ n
  pub each : (at : ℕ) (p : Piece) → at < n → slice_get pieces at ≡ Some p → IsAt words at (instr_at c at (meant p))

-- the words of all pieces, and these after them
pub record AreWordsOf (c : Context) (pieces : List Piece) (texts code : List ℕ) : Type 0 where
  pub first : List ℕ
  pub words : AreWordsTo c pieces (length pieces) first
  pub is : code ≡ first ++ texts
