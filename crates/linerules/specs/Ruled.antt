-- The rules of a line on plain numbers: what it holds by its word, from the scales and levels that its operands hold. What is a bare
-- constant, an encoded one or a ciphertext is known by the line's word.
use Rattle.std.specs.Prelude.{ℕ, ◌+◌, ◌-◌, ◌*◌, cond, [], ◌∷◌, eqb, ltb, pos, ◌+ℤ◌, ◌-ℤ◌, ◌*ℤ◌}
use Rattle.std.specs.Int.Signed.{le_z}
use Rattle.model.specs.declared.Header.{Header}
use Rattle.model.specs.declared.Line.{Line}
use Rattle.model.specs.declared.Line.TheVariants.{In, Const, Neg, Rot, Add, Mul, Out, Enc, Rs, Ms, Us, Free}
use Rattle.model.specs.Scales.{headroom}
use Rattle.model.specs.Machine.{Step, goes}
use Rattle.bounds.specs.declared.Held.{Held}
use Rattle.bounds.specs.Bounded.{ruled_unless, bounded_numbers}

-- `neg`, `rot`, `out`, `rs`, `ms` and `us`: a scale raised by some bits and lowered by some, at some levels less
abbrev pub moved_by : Header → Held → ℕ → ℕ → ℕ → Step Held ℕ
moved_by h x raised lowered levels = bounded_numbers h (pos (x.scale + raised) -ℤ pos lowered) (pos x.level -ℤ pos levels)

abbrev pub sum_of : Header → Held → Held → Step Held ℕ
sum_of h x y =
    ruled_unless ((7, eqb x.level y.level) ∷ (8, eqb x.scale y.scale) ∷ []) (bounded_numbers h (pos x.scale) (pos x.level))

abbrev pub product_of : Header → Held → Held → Step Held ℕ
product_of h x y = ruled_unless ((7, eqb x.level y.level) ∷ []) (bounded_numbers h (pos (x.scale + y.scale)) (pos x.level))

-- a rescale by 0, which stands for `ds`: 14 and 9 in turn, then W at one level less
abbrev pub downscaled_of : Header → Held → Step Held ℕ
downscaled_of h x =
    let raised = h.waterline + h.factor in
    ruled_unless
    ((14, ltb x.scale raised) ∷ (9, le_z (pos raised +ℤ pos (headroom h)) (pos h.factor *ℤ pos x.level)) ∷ [])
    (goes (record { scale = h.waterline; level = x.level - 1 }))

-- A line whose operands hold x and y. A bare constant holds no scale and no level; neither does a record that holds no line.
unfoldable pub ruled_by : Header → Line → Held → Held → Step Held ℕ
ruled_by h In x y = bounded_numbers h (pos h.waterline) (pos h.top)
ruled_by h (Const k) x y = goes (record { scale = 0; level = 0 })
ruled_by h (Neg a) x y = moved_by h x 0 0 0
ruled_by h (Rot a t) x y = moved_by h x 0 0 0
ruled_by h (Add a b) x y = sum_of h x y
ruled_by h (Mul a b) x y = product_of h x y
ruled_by h (Out a) x y = moved_by h x 0 0 0
ruled_by h (Enc a s e) x y = bounded_numbers h (pos s) (pos e)
ruled_by h (Rs a c) x y = cond (eqb c 0) (downscaled_of h x) (moved_by h x 0 (h.factor * c) c)
ruled_by h (Ms a c) x y = moved_by h x 0 0 c
ruled_by h (Us a b) x y = moved_by h x b 0 0
ruled_by h Free x y = goes (record { scale = 0; level = 0 })
