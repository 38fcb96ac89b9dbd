-- A line with one operand, and with two: a law for each return and each need of the functions that write them. Assumes nothing.
use Prim.Native.Nat.{ℕ, ◌+◌}
use native.Mathlib.Omega.{arith}
use mathlib.Core.Path.{◌≡◌, ap, ◌∙◌}
use mathlib.Core.List.{List}
use borrow.Author.Rules.{rules}
use lib.IntN.{ℤ}
use mir.Syntax.{w32}
use mir.Val.{SFits}
use Rattle.model.specs.declared.Header.{Header}
use Rattle.model.specs.declared.Line.{Line}
use Rattle.model.specs.declared.Choice.{Choice}
use Rattle.model.specs.Plan.{Draft, emit}
use Rattle.operands.specs.Operands.{with_operands}
use Rattle.tables.specs.declared.Record.{Record}
use Rattle.tables.specs.Records.{lines_held}
use Rattle.conversions.specs.declared.Drafted.{Drafted}
use Rattle.conversions.specs.declared.Operand.{Operand}
use Rattle.conversions.specs.Drafts.{Wrote}
use Rattle.conversions.specs.Operands.{supplied, Reaches}
use Rattle.conversions.proofs.PutLaws.{reading, read_same}
use Rattle.planlines.specs.Lines.{with_one, with_two}

module _ (h : Header) (p : Choice) (x : Line) (a : Operand) (s : SFits w32 p.first) (records one : List Record) (count : ℕ) (d : Drafted)
    (u : Wrote (supplied h a (reading p.first) p.level (lines_held records count)) (count + 3) d one) where
  pub one_planned :
      (y : Line) → y ≡ with_operands x d.number 0 → (after : List Record) (e : Drafted) → Wrote (emit (lines_held one d.count) y) (d.count + 1) e after →
      Wrote (with_one h p x a (lines_held records count)) (count + 4) e after
  unfolding with_one
  one_planned y is after e w =
      record {
        same = w.same ∙ ap (emit (lines_held one d.count)) is ∙ ap (λ (g : Draft). emit g.lines (with_operands x g.number 0)) (rw (read_same p.first s) at u.same);
        few = omega (arith, u.few, w.few);
        long = w.long;
      }

  module _ (b : Operand) (t : SFits w32 p.second) (two : List Record) (g : Drafted)
      (v : Wrote (supplied h b (reading p.second) p.level (lines_held one d.count)) (d.count + 3) g two) where
    pub two_planned :
        (y : Line) → y ≡ with_operands x d.number g.number → (after : List Record) (e : Drafted) → Wrote (emit (lines_held two g.count) y) (g.count + 1) e after →
        Wrote (with_two h p x a b (lines_held records count)) (count + 7) e after
    unfolding with_two
    two_planned y is after e w =
        record {
          same = w.same ∙ ap (emit (lines_held two g.count)) is
              ∙ ap (λ (f : Draft). emit f.lines (with_operands x d.number f.number)) (rw (read_same p.second t) at v.same)
              ∙ ap (λ (f : Draft).
              let e = supplied h b p.second p.level f.lines in
              emit e.lines (with_operands x f.number e.number))
              (rw (read_same p.first s) at u.same);
          few = omega (arith, u.few, v.few, w.few);
          long = w.long;
        }

pub read_reaches : (h : Header) (o : Operand) (r : ℤ) (l : ℕ) → Reaches h o r l → SFits w32 r → Reaches h o (reading r) l
read_reaches h o r l R s = rw (read_same r s) R

pub ruleset each_line_laws = (rules, read_reaches, one_planned, two_planned)
