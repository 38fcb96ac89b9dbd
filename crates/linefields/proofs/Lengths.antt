-- How long a line can be. Assumes nothing.
use Prim.Native.Nat.{ℕ, ◌≤◌}
use mathlib.Core.List.{[], ◌∷◌}
use native.Mathlib.Omega.{arith}
use lib.IntN.{ℤ}
use lib.ListN.{length}
use Rattle.fields.specs.Pieces.{Bytes}
use Rattle.model.specs.declared.Line.{Line}
use Rattle.model.specs.declared.Line.TheVariants.{In, Const, Neg, Rot, Add, Mul, Out, Enc, Rs, Ms, Us, Free}
use Rattle.model.specs.declared.Word as Words
use Rattle.model.specs.Words.{entry}
use Rattle.text.specs.Files.{line_form}
use Rattle.spelling.proofs.Lengths.{numbered_most, amount_most, rot_length}

rot_most : (a : ℕ) (t : ℤ) → length (line_form.text (Rot a t)) ≤ 71
rot_most a t =
    let word : Bytes = (entry Words.TheVariants.Rot).bytes in
    omega (arith, rot_length word a t, numbered_most word (a ∷ []), amount_most t)

pub line_most : (x : Line) → length (line_form.text x) ≤ 71
line_most In = omega (arith, numbered_most (entry Words.TheVariants.In).bytes [])
line_most (Const k) = omega (arith, numbered_most (entry Words.TheVariants.Const).bytes (k ∷ []))
line_most (Neg a) = omega (arith, numbered_most (entry Words.TheVariants.Neg).bytes (a ∷ []))
line_most (Rot a t) = rot_most a t
line_most (Add a b) = omega (arith, numbered_most (entry Words.TheVariants.Add).bytes (a ∷ b ∷ []))
line_most (Mul a b) = omega (arith, numbered_most (entry Words.TheVariants.Mul).bytes (a ∷ b ∷ []))
line_most (Out a) = omega (arith, numbered_most (entry Words.TheVariants.Out).bytes (a ∷ []))
line_most (Enc a s l) = omega (arith, numbered_most (entry Words.TheVariants.Enc).bytes (a ∷ s ∷ l ∷ []))
line_most (Rs a c) = omega (arith, numbered_most (entry Words.TheVariants.Rs).bytes (a ∷ c ∷ []))
line_most (Ms a c) = omega (arith, numbered_most (entry Words.TheVariants.Ms).bytes (a ∷ c ∷ []))
line_most (Us a b) = omega (arith, numbered_most (entry Words.TheVariants.Us).bytes (a ∷ b ∷ []))
line_most Free = omega (arith, numbered_most [] [])
