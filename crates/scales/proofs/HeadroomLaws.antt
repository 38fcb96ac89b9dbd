-- The headroom, given or not: a law for each need of the function that reads it. Assumes nothing.
use Rattle.std.specs.Prelude.{Option, Some, None, unwrap_or}
use Prim.Native.Nat.{ℕ, ◌≤◌}
use native.Mathlib.Omega.{arith}
use mathlib.Core.Path.{◌≡◌, refl, sym, ap, ◌∙◌}
use borrow.Author.Rules.{rules}
use lib.Dec.{T}
use lib.IntN.{pos}
use mir.Syntax.{w32}
use mir.Val.{to_z}
use mir.ValLaws.{to_z_pos}
use Rattle.model.specs.declared.Header.{Header}
use Rattle.model.specs.Scales.{header_in_range, headroom}
use Rattle.model.proofs.Tests.{header_facts}
use Rattle.model.proofs.HeadroomLaws.{none_is, given_is, headroom_most}
use Rattle.scales.specs.Headroom.{SmallHeadroom}

module _ (h : Header) (ranged : T (header_in_range h)) where
  small : headroom h ≤ 60
  small = headroom_most h (header_facts h ranged)

  module _ (bits : ℕ) (e : bits ≡ unwrap_or h.headroom 0) where
    counted : bits ≡ headroom h
    counted = e ∙ go h.headroom refl
      where
        go : (given : Option ℕ) → h.headroom ≡ given → unwrap_or h.headroom 0 ≡ headroom h
        go None q = ap (λ (o : Option ℕ). unwrap_or o 0) q ∙ sym (none_is h q)
        go (Some n) q = ap (λ (o : Option ℕ). unwrap_or o 0) q ∙ sym (given_is h n q)

    pub bits_held : SmallHeadroom h (to_z w32 bits)
    bits_held = record { is = to_z_pos w32 bits (omega (arith, small, counted)) ∙ ap pos counted; small = small }

pub ruleset headroom_laws = (rules, bits_held)
