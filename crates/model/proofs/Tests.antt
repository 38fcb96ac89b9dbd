-- Tests as facts: what a test that passed says, and what makes it pass. Assumes nothing.
use Rattle.std.specs.Prelude.{Option, Some, None}
use Prim.Native.Nat.{ℕ, ◌<◌, ◌≤◌}
use native.Mathlib.Decide.{dec_lt}
use native.Mathlib.Omega.{arith}
use mathlib.Core.Path.{◌≡◌, refl, subst}
use mathlib.Core.Logic.{◌⊎◌, inl, inr}
use mathlib.Core.Bool.{Bool, ◌&&◌}
use mathlib.Core.List.{List, [], ◌∷◌}
use lib.Dec.{T, leb, eqb, leb→le, le→leb, eqb_refl}
use Rattle.model.specs.declared.Header.{Header}
use Rattle.model.specs.declared.Kind.{Kind}
use Rattle.model.specs.declared.Kind.TheVariants.{Ciphertext, Constant, Encoded, Nothing}
use Rattle.rows.specs.Fields.{ranged, within, all_in_range}
pub use Rattle.rows.proofs.Tests.{and_first, and_second, and_both, or_cases, or_first, or_second, by_test, cond_cases, cond_true, cond_false}
use Rattle.model.specs.Scales.{headroom_numbers, header_in_range}
use Rattle.model.specs.Files.{is_ciphertext, is_constant, is_encoded, is_usable}
use Rattle.model.specs.Worked.{ciphertext_lines}

-- ---- worked cases: what is computed of each is what it is
abbrev pub Alike : List (Bool × Bool) → Type 0
Alike [] = Unit {0}
Alike ((found, is) ∷ more) = (found ≡ is) × Alike more

-- which words are those of ciphertext lines
pub lines_tested : Alike ciphertext_lines
lines_tested = (refl, (refl, (refl, (refl, (refl, (refl, (refl, (refl, (refl, (refl, (refl, tt)))))))))))

-- ---- equal numbers
pub eq_passes : (m n : ℕ) → m ≡ n → T (eqb m n)
eq_passes m n e = subst (λ (k : ℕ). T (eqb m k)) e (eqb_refl m)

pub below_or_not : (l m : ℕ) → (l < m) ⊎ (m ≤ l)
below_or_not l m = elim (dec_lt l m) [ yes p ↦ inl p | no q ↦ inr (omega arith) ]

-- ---- ranges
pub record Within (low high n : ℕ) : Type 0 where
  pub least : low ≤ n
  pub most : n ≤ high

pub within_facts : (low high n : ℕ) → T (within low high n) → Within low high n
within_facts low high n t =
    record {
      least = leb→le low n (and_first (leb low n) (leb n high) t);
      most = leb→le n high (and_second (leb low n) (leb n high) t);
    }

pub within_passes : (low high n : ℕ) → Within low high n → T (within low high n)
within_passes low high n w = and_both (leb low n) (leb n high) (le→leb low n w.least) (le→leb n high w.most)

-- the headroom's range, where it is given
abbrev headroom_passes : Option ℕ → Bool
headroom_passes given = all_in_range 0 (ranged 1 60 ∷ []) (headroom_numbers given)

abbrev pub HeadroomFacts : Option ℕ → Type 0
HeadroomFacts None = Unit {0}
HeadroomFacts (Some bits) = Within 1 60 bits

headroom_facts : (given : Option ℕ) → T (headroom_passes given) → HeadroomFacts given
headroom_facts None t = tt
headroom_facts (Some bits) t = within_facts 1 60 bits t

headroom_passes_lem : (given : Option ℕ) → HeadroomFacts given → T (headroom_passes given)
headroom_passes_lem None f = tt
headroom_passes_lem (Some bits) f = within_passes 1 60 bits f

pub record HeaderFacts (h : Header) : Type 0 where
  pub factor : Within 1 60 h.factor
  pub waterline : Within 1 60 h.waterline
  pub top : Within 1 60 h.top
  pub headroom : HeadroomFacts h.headroom

module _ (h : Header) where
  abbrev from_headroom : Bool
  from_headroom = headroom_passes h.headroom

  abbrev from_top : Bool
  from_top = within 1 60 h.top && from_headroom

  abbrev from_waterline : Bool
  from_waterline = within 1 60 h.waterline && from_top

  pub header_facts : T (header_in_range h) → HeaderFacts h
  header_facts t =
      let waterline_on = and_second (within 1 60 h.factor) from_waterline t in
      let top_on = and_second (within 1 60 h.waterline) from_top waterline_on in
      record {
        factor = within_facts 1 60 h.factor (and_first (within 1 60 h.factor) from_waterline t);
        waterline = within_facts 1 60 h.waterline (and_first (within 1 60 h.waterline) from_top waterline_on);
        top = within_facts 1 60 h.top (and_first (within 1 60 h.top) from_headroom top_on);
        headroom = headroom_facts h.headroom (and_second (within 1 60 h.top) from_headroom top_on);
      }

  pub header_passes : HeaderFacts h → T (header_in_range h)
  header_passes f =
      and_both (within 1 60 h.factor) from_waterline (within_passes 1 60 h.factor f.factor)
      (and_both (within 1 60 h.waterline) from_top (within_passes 1 60 h.waterline f.waterline)
      (and_both (within 1 60 h.top) from_headroom (within_passes 1 60 h.top f.top) (headroom_passes_lem h.headroom f.headroom)))

-- ---- kinds
pub is_ciphertext_lem : (k : Kind) → T (is_ciphertext k) → k ≡ Ciphertext
is_ciphertext_lem Ciphertext t = refl
is_ciphertext_lem Constant t = absurd t
is_ciphertext_lem Encoded t = absurd t
is_ciphertext_lem Nothing t = absurd t

pub is_constant_lem : (k : Kind) → T (is_constant k) → k ≡ Constant
is_constant_lem Ciphertext t = absurd t
is_constant_lem Constant t = refl
is_constant_lem Encoded t = absurd t
is_constant_lem Nothing t = absurd t

pub is_encoded_lem : (k : Kind) → T (is_encoded k) → k ≡ Encoded
is_encoded_lem Ciphertext t = absurd t
is_encoded_lem Constant t = absurd t
is_encoded_lem Encoded t = refl
is_encoded_lem Nothing t = absurd t

pub not_nothing : (k : Kind) → T (is_usable k) → k ≡ Nothing → ⊥
not_nothing k t e = subst (λ (j : Kind). T (is_usable j)) e t
