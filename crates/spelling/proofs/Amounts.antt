-- The text of a rotation amount: a minus where it is below 0, and the digits of its size. Assumes nothing.
use Prim.Native.Nat.{ℕ}
use mathlib.Core.Bool.{Bool, true, false}
use mathlib.Core.List.{[], ◌∷◌, ◌++◌}
use mathlib.Core.Path.{◌≡◌, refl, sym, ap, ◌∙◌}
use lib.IntN.{ℤ, pos, negsuc, nat_abs}
use mir.Syntax.{w16}
use mir.Val.{SFits}
use mir.ValLaws.{to_z-of_z}
use Rattle.fields.specs.Pieces.{Bytes, tab}
use Rattle.fields.specs.Numbers.{decimal, amount_text}
use Rattle.spelling.specs.Put.{is_negative}
use Rattle.spelling.proofs.Signs.{held, not_both}

abbrev pub minus_text : ℤ → Bytes
minus_text (pos n) = []
minus_text (negsuc n) = 45 ∷ []

amount_parts : (z : ℤ) → amount_text z ≡ minus_text z ++ decimal (nat_abs z)
amount_parts (pos n) = refl
amount_parts (negsuc n) = refl

-- b is whether z is below 0
pub minus_below : (z : ℤ) (b : Bool) → b ≡ is_negative z → b ≡ true → minus_text z ≡ 45 ∷ []
minus_below (pos n) b q p = not_both (sym q ∙ p)
minus_below (negsuc n) b q p = refl

pub no_minus_above : (z : ℤ) (b : Bool) → b ≡ is_negative z → b ≡ false → minus_text z ≡ []
no_minus_above (pos n) b q p = refl
no_minus_above (negsuc n) b q p = not_both (sym p ∙ q)

module _ (z : ℤ) (h : SFits w16 z) where
  pub amount_held : amount_text z ≡ amount_text (held z)
  amount_held = ap amount_text (sym (to_z-of_z w16 z h))

  pub amount_is : (n : ℕ) → n ≡ nat_abs (held z) → amount_text z ≡ minus_text (held z) ++ decimal n
  amount_is n e = amount_held ∙ rw e (amount_parts (held z))

  pub amount_field : tab ∷ amount_text z ≡ (tab ∷ []) ++ amount_text (held z)
  amount_field = ap (λ (x : Bytes). tab ∷ x) amount_held
