-- The headroom: it is the same at every top level and at most 60, which is all that other proofs use of it; and it is what the header gives. Assumes nothing.
use Rattle.std.specs.Prelude.{Option, Some, None}
use Prim.Native.Nat.{ℕ, ◌≤◌}
use native.Mathlib.Omega.{arith}
use mathlib.Core.Path.{◌≡◌, refl, ap, subst}
use Rattle.model.specs.declared.Header.{Header}
use Rattle.model.specs.Scales.{headroom, with_top}
use Rattle.model.proofs.Tests.{HeaderFacts, HeadroomFacts}

abbrev bits_of : Option ℕ → ℕ
bits_of given = elim given [ None ↦ 0 | Some bits ↦ bits ]

-- where the header gives none, and where it gives one
module _ (h : Header) where
  pub none_is : h.headroom ≡ None → headroom h ≡ 0
  unfolding headroom
  none_is e = ap bits_of e

  pub given_is : (bits : ℕ) → h.headroom ≡ Some bits → headroom h ≡ bits
  unfolding headroom
  given_is bits e = ap bits_of e

  pub record GivenFacts (bits : ℕ) : Type 0 where
    pub is : headroom h ≡ bits
    pub some : 1 ≤ bits

  pub given_facts : HeaderFacts h → (bits : ℕ) → h.headroom ≡ Some bits → GivenFacts bits
  given_facts facts bits e = record { is = given_is bits e; some = (subst HeadroomFacts e facts.headroom).least }

pub headroom_top : (h : Header) (l : ℕ) → headroom (with_top h l) ≡ headroom h
unfolding headroom
headroom_top h l = refl

pub headroom_most : (h : Header) → HeaderFacts h → headroom h ≤ 60
unfolding headroom
headroom_most h facts = go h.headroom facts.headroom
  where
    go : (given : Option ℕ) → HeadroomFacts given → bits_of given ≤ 60
    go None f = omega arith
    go (Some bits) f = f.most
