-- Printing: a refusal's line at the front of the buffer is what the program prints. Assumes nothing.
use Prim.Native.Nat.{ℕ, ◌+◌, ◌≤◌}
use native.Mathlib.Omega.{arith}
use mathlib.Core.Path.{◌≡◌, refl, sym, ap, ◌∙◌}
use borrow.Author.Rules.{rules}
use lib.ListN.{length}
use Rattle.fields.specs.Pieces.{Bytes}
use Rattle.spelling.specs.Put.{Put}
use Rattle.services.specs.declared.Reply.{Reply}
use Rattle.services.specs.Program.{refused_line, ProgramPromise}
use Rattle.services.specs.Outcomes.{Replied}
use Rattle.services.specs.Calls.{plan_outcome}
use Rattle.services.proofs.Program.{decided, refused_short, prints_plan, prints_refusal}

module _ (input out : Bytes) (r : Reply) (after : Bytes) (room : 131072 ≤ length out) (a : Replied (plan_outcome input) out r after) (z : r.number ≡ 0 → ⊥) where
  pub line_room : (m n : ℕ) → 0 + length (refused_line m n) ≤ length after
  line_room m n = let same = ap length (prints_refusal input out r after room a z).unchanged in omega (arith, refused_short m n)

  pub line_printed : (count : ℕ) (last : Bytes) → Put after 0 (refused_line r.number r.place) count last → ProgramPromise input out count last
  line_printed count last p =
      let is = prints_refusal input out r after room a z in
      let counted : count ≡ length (refused_line r.number r.place) = omega (arith, p.place) in
      record {
        counted = counted ∙ ap length (sym is.line_is);
        printed = p.bytes ∙ rw (is.line_is, ← p.place, is.unchanged) refl;
        decided = decided input;
      }

pub ruleset output_laws = (rules, prints_plan, line_room, line_printed)
