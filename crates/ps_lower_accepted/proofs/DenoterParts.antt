-- What is known behind the parts of a type denoter that are read one after another, and of a type that is built.
use Rattle.std.proofs.Common.{◌≡◌, ℕ, ◌≤◌, Bool, ◌&&◌, List, [], ◌∷◌, ◌++◌, length, Some, pos, int_le, refl, sym}
use Rattle.std.proofs.Common.{ap, ◌∙◌, subst, arith, append-nil, append_assoc}
use Rattle.ps_check.proofs.EachItem.{each_append}
use Rattle.ps_scan.specs.Spans.{AreOrdered}
use Rattle.ps_scan.specs.declared.token.Token.{Token}
use Rattle.ps_syntax.specs.declared.program.Ordinal as syntax
use Rattle.ps_parse_grammar.specs.Symbols.{Tokens}
use Rattle.ps_tree.specs.declared.types.Ordinal.{Ordinal}
use Rattle.ps_tree.specs.Types.{DataType, SetType}
use Rattle.ps_check_judgement.specs.Judged.{Yes}
use Rattle.ps_check_judgement.proofs.Binds.{provided_yes}
use Rattle.ps_check_names.specs.Regions.{Meaning}
use Rattle.ps_check_declarations.specs.Denoters.{Frame, Declared, set_of, packing_of}
use Rattle.ps_lower_accepted.proofs.Lists.{Each}
use Rattle.ps_lower_accepted.proofs.Tables.{Table, EndsBefore, OrdinalKnown, TypeKnown}
use Rattle.ps_lower_accepted.proofs.Aims.{pointers}
use Rattle.ps_lower_accepted.proofs.BlockMeanings.{ends_later}
use Rattle.ps_lower_accepted.proofs.Placed.{Agrees, agrees_self, agrees_both, Built}
use Rattle.ps_lower_accepted.proofs.Ordinals.{IsConstantMeaning, Known, known_more, OrdinalRead}

module _ (f : Frame) where
  -- what is known after a part of the declarations
  pub record Behind (low high : ℕ) (r : Tokens) (D : Table) (d e : Declared) (Q : Table → ℕ → Type 0) : Type 0 where
    pub table : Table
    pub next : ℕ
    pub later : low ≤ next
    pub ordered : AreOrdered next high r
    pub agrees : Agrees low D table
    pub ends : EndsBefore next table
    pub known : Known f table e
    pub told : Q table (pointers e)
    pub more : pointers d ≤ pointers e
    pub domains : e.domains ≡ d.domains
    pub variables : e.variables ≡ d.variables
    pub new : List Meaning
    pub all_known : e.known ≡ d.known ++ new
    pub constants : Each IsConstantMeaning new

  abbrev pub TypeBehind : (low high : ℕ) → Tokens → Table → (d e : Declared) → DataType → Type 0
  TypeBehind low high r D d e type = Behind low high r D d e (λ E b. TypeKnown E b type)

  -- after one more token
  unfoldable pub past_token : (low high : ℕ) (t : Token) (r : Tokens) (D : Table) (d e : Declared)
      (Q : Table → ℕ → Type 0)
      → Behind low high (t ∷ r) D d e Q → Behind low high r D d e Q
  past_token low high t r D d e Q b = let o = b.ordered in record {
    table = b.table;
    next = t.span.to;
    later = let x = b.later in let y = o.0 in let z = o.1 in omega (arith, x, y, z);
    ordered = o.2;
    agrees = b.agrees;
    ends = ends_later b.table b.next t.span.to (let y = o.0 in let z = o.1 in omega (arith, y, z)) b.ends;
    known = b.known;
    told = b.told;
    more = b.more;
    domains = b.domains;
    variables = b.variables;
    new = b.new;
    all_known = b.all_known;
    constants = b.constants;
  }

  -- what is known for the second part
  unfoldable pub two_parts : (low middle high : ℕ) (m r : Tokens) (D : Table) (d e g : Declared)
      (Q R : Table → ℕ → Type 0)
      → (a : Behind low high m D d e Q) → low ≤ middle → Behind middle high r a.table e g R → Behind low high r D d g R
  two_parts low middle high m r D d e g Q R a le b = record {
    table = b.table;
    next = b.next;
    later = let x = b.later in omega (arith, le, x);
    ordered = b.ordered;
    agrees = agrees_both low middle D a.table b.table le a.agrees b.agrees;
    ends = b.ends;
    known = b.known;
    told = b.told;
    more = let x = a.more in let y = b.more in omega (arith, x, y);
    domains = b.domains ∙ a.domains;
    variables = b.variables ∙ a.variables;
    new = a.new ++ b.new;
    all_known = b.all_known ∙ ap (λ l. l ++ b.new) a.all_known ∙ append_assoc d.known a.new b.new;
    constants = each_append IsConstantMeaning a.new b.new a.constants b.constants;
  }

  -- nothing is read
  unfoldable pub nothing_read : (low next high : ℕ) (r : Tokens) (D : Table) (d : Declared) (Q : Table → ℕ → Type 0)
      → low ≤ next
      → AreOrdered next high r → EndsBefore low D → Known f D d → Q D (pointers d) → Behind low high r D d d Q
  nothing_read low next high r D d Q le ordered ends known told = record {
    table = D;
    next = next;
    later = le;
    ordered = ordered;
    agrees = agrees_self low D;
    ends = ends_later D low next le ends;
    known = known;
    told = told;
    more = omega arith;
    domains = refl;
    variables = refl;
    new = [];
    all_known = sym (append-nil d.known);
    constants = tt;
  }

  -- other facts
  unfoldable pub retold : (low high : ℕ) (r : Tokens) (D : Table) (d e : Declared) (Q R : Table → ℕ → Type 0)
      → (a : Behind low high r D d e Q) → R a.table (pointers e) → Behind low high r D d e R
  retold low high r D d e Q R a told = record {
    table = a.table;
    next = a.next;
    later = a.later;
    ordered = a.ordered;
    agrees = a.agrees;
    ends = a.ends;
    known = a.known;
    told = told;
    more = a.more;
    domains = a.domains;
    variables = a.variables;
    new = a.new;
    all_known = a.all_known;
    constants = a.constants;
  }

  -- from an earlier place
  abbrev pub lower : (low middle high : ℕ) (r : Tokens) (D : Table) (d e : Declared) (Q : Table → ℕ → Type 0)
      → low ≤ middle
      → Behind middle high r D d e Q → Behind low high r D d e Q
  lower low middle high r D d e Q le a = record {
    table = a.table;
    next = a.next;
    later = let x = a.later in omega (arith, x, le);
    ordered = a.ordered;
    agrees = agrees_both low middle D D a.table le (agrees_self low D) a.agrees;
    ends = a.ends;
    known = a.known;
    told = a.told;
    more = a.more;
    domains = a.domains;
    variables = a.variables;
    new = a.new;
    all_known = a.all_known;
    constants = a.constants;
  }

  pub set_known : (word at : ℕ) (packed : Bool) (o : Ordinal) (type : DataType) → set_of word at packed o ≡ Yes type
      → (E : Table) (b : ℕ) → OrdinalKnown E o → TypeKnown E b type
  set_known word at packed o type q E b known = let is = provided_yes
      (int_le (pos 0) o.low && int_le o.high (pos 255)) _ _ (SetType (Some at) (packing_of packed) o) type q in subst
      (TypeKnown E b) is.1 (known.low, known.high)

  -- structures are built of what was read
  pub built_behind : (low high top : ℕ) (r : Tokens) (D : Table) (d e : Declared) (Q : Table → ℕ → Type 0)
      (type : DataType)
      → (a : Behind low high r D d e Q) → top ≤ a.next → Built low top a.table (pointers e) type
      → TypeBehind low high r D d e type
  built_behind low high top r D d e Q type a le b = record {
    table = b.table;
    next = a.next;
    later = a.later;
    ordered = a.ordered;
    agrees = record {
      structures = λ at l. b.below at l ∙ a.agrees.structures at l;
      subranges = λ at l. b.subranges at ∙ a.agrees.subranges at l;
      enumerations = λ at l. b.enumerations at ∙ a.agrees.enumerations at l;
    };
    ends = record {
      structures = λ at l. b.above at (omega (arith, l, le)) ∙ a.ends.structures at l;
      subranges = λ at l. b.subranges at ∙ a.ends.subranges at l;
      enumerations = λ at l. b.enumerations at ∙ a.ends.enumerations at l;
    };
    known = known_more f a.table b.table e b.extends a.known;
    told = b.known;
    more = a.more;
    domains = a.domains;
    variables = a.variables;
    new = a.new;
    all_known = a.all_known;
    constants = a.constants;
  }

  pub pointers_same : (d e : Declared) → e.domains ≡ d.domains → e.pending ≡ d.pending → pointers d ≤ pointers e
  pointers_same d e x y = let a = ap length x in let b = ap length y in omega (arith, a, b)

  unfoldable pub from_ordinal : (low high : ℕ) (x : syntax.Ordinal) (r : Tokens) (D : Table) (d e : Declared)
      (o : Ordinal)
      → OrdinalRead f low high x r D d e o → Behind low high r D d e (λ E b. OrdinalKnown E o)
  from_ordinal low high x r D d e o a = record {
    table = a.table;
    next = a.next;
    later = let i = a.starts in let j = a.before in omega (arith, i, j);
    ordered = a.ordered;
    agrees = a.agrees;
    ends = a.ends;
    known = a.known;
    told = a.ordinal;
    more = pointers_same d e a.domains a.pending;
    domains = a.domains;
    variables = a.variables;
    new = a.new;
    all_known = a.all_known;
    constants = a.constants;
  }
