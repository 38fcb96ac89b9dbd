-- An operand of a circuit line, as the code knows it.
use Rattle.std.specs.Prelude.{ℕ, ◌*◌, ◌≤◌, true, cond, List, ◌≡◌, ℤ, pos, get_or, ◌≤ℤ◌}
use Rattle.ints.specs.Parts.{positive}
use Rattle.model.specs.declared.Header.{Header}
use Rattle.model.specs.declared.Best.{Best}
use Rattle.model.specs.declared.Best.TheVariants as Bests
use Rattle.model.specs.declared.Line.{Line}
use Rattle.model.specs.Files.{kind_at, is_ciphertext}
use Rattle.model.specs.Plan.{Draft, supply}
use Rattle.conversions.specs.declared.Operand.{Operand}

-- what the plan asks of it: its reserve and level, as if its own operands had come unchanged
abbrev pub best_of : Operand → Best
best_of o =
    cond o.ciphertext (Bests.Ciphertext (record { level = o.level; reserve = o.reserve; first = o.reserve; second = o.reserve }))
    Bests.Constant

-- its lines after these, where it is brought to reserve r at level l
abbrev pub supplied : Header → Operand → ℤ → ℕ → List Line → Draft
supplied h o r l lines = supply h (best_of o) r l (record { lines = lines; number = o.number })

-- A ciphertext has at least that reserve and that level, and no more than the greatest F·L and L.
pub record Falls (o : Operand) (r : ℤ) (l : ℕ) : Type 0 where
  pub whole : pos 0 ≤ℤ o.reserve
  pub most : positive o.reserve ≤ 3600
  pub top : o.level ≤ 60
  pub reserve : positive r ≤ positive o.reserve
  pub level : l ≤ o.level

-- An operand can be brought to reserve r at level l.
pub record Reaches (h : Header) (o : Operand) (r : ℤ) (l : ℕ) : Type 0 where
  pub factor : 1 ≤ h.factor
  pub modulus : h.factor * l ≤ 3600
  pub level : l ≤ 60
  pub whole : pos 0 ≤ℤ r
  pub below : positive r ≤ h.factor * l
  pub falls : o.ciphertext ≡ true → Falls o r l

-- value a after these circuit lines, by the best reserves, the levels and the numbers in the schedule
abbrev pub operand_in : List Line → List ℤ → List ℕ → List ℕ → ℕ → Operand
operand_in before reserves levels numbers a =
    record {
      ciphertext = is_ciphertext (kind_at before a);
      reserve = get_or reserves a (pos 0);
      level = get_or levels a 0;
      number = get_or numbers a 0;
    }
