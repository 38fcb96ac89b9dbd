-- Bringing a value to a reserve and a level, and encoding a constant there: the lines written keep the rules, are in range, and what they make
-- has just that scale and level. Assumes nothing.
use Prim.Native.Nat.{ℕ, zero, suc, ◌+◌, ◌-◌, ◌*◌, ◌/◌, ◌≤◌, min}
use native.Mathlib.Nat.{mul-add, mul-le-mul, mul-le-mul_right, min-le_left, div-add-mod'}
use native.Mathlib.Omega.{arith}
use mathlib.Core.Path.{◌≡◌, refl, sym, ap, ap₂, ◌∙◌, subst}
use mathlib.Core.Bool.{Bool, true, ◌&&◌}
use mathlib.Core.List.{List, [], ◌∷◌, ◌++◌}
use lib.Dec.{T}
use lib.ListN.{length}
use lib.IntN.{ℤ, pos, ◌-ℤ◌}
use Rattle.ints.specs.Parts.{positive}
use Rattle.ints.proofs.Linear.{sub_is, positive_sub}
use Rattle.model.specs.declared.Header.{Header}
use Rattle.model.specs.declared.Line.{Line}
use Rattle.model.specs.declared.Line.TheVariants.{Enc, Rs, Ms, Us}
use Rattle.model.specs.declared.Grammar.TheVariants.{Schedule}
use Rattle.model.specs.declared.Kind.{Kind}
use Rattle.model.specs.declared.Kind.TheVariants.{Ciphertext, Constant, Encoded}
use Rattle.rows.specs.Fields.{within}
use Rattle.model.specs.Scales.{headroom}
use Rattle.model.specs.Files.{kind_of, kind_at, is_usable, is_ciphertext, is_constant, line_formed}
use Rattle.model.specs.Machine.{Step, goes, and_then, step}
use Rattle.model.specs.Rules.{Bounds}
use Rattle.model.specs.declared.Best.{Best}
use Rattle.model.specs.declared.Best.TheVariants as Bests
use Rattle.model.specs.Plan.{Draft, unless_zero, switches, convert, bring, scale_for, supply}
use Rattle.model.specs.Services.{made_from, fate_of}
use Rattle.model.specs.declared.Found.{Found}
use Rattle.model.specs.declared.Found.TheVariants as Founds
use Rattle.model.specs.Answers.{bounded, on_bare, on_ciphertext, check_machine}
use Rattle.model.proofs.Tests.{and_both, within_passes, HeaderFacts}
use Rattle.model.proofs.Bounded.{bounded_goes}
use Rattle.model.proofs.Drafts.{found_in, Sound, Stands, kind_at_lem, reads, Grown, emit_struck, then, none, at_most}

-- a line with one operand of its kind
pub on_ciphertext_formed : (r : Bool) (k : Kind) → T r → k ≡ Ciphertext → T (r && (is_usable k && true && is_ciphertext k))
on_ciphertext_formed r k t e = subst (λ (j : Kind). T (r && (is_usable j && true && is_ciphertext j))) (sym e) (and_both r true t tt)

pub on_constant_formed : (r : Bool) (k : Kind) → T r → k ≡ Constant → T (r && (is_usable k && true && is_constant k))
on_constant_formed r k t e = subst (λ (j : Kind). T (r && (is_usable j && true && is_constant j))) (sym e) (and_both r true t tt)

module _ (h : Header) (H : HeaderFacts h) where
  -- no modulus has more than 3600 bits
  pub few_bits : (l : ℕ) → l ≤ h.top → h.factor * l ≤ 3600
  few_bits l u = mul-le-mul {m₂ = 60} H.factor.most (omega (arith, H.top.most))

  -- ---- one conversion line, or none
  module _ (word : ℕ → ℕ → Line) (fate : (i n : ℕ) → fate_of (word i n) ≡ made_from i) (kind : (i n : ℕ) → kind_of (word i n) ≡ Ciphertext) where
    pub record Converts (lines : List Line) (i n s l s' l' : ℕ) : Type 0 where
      pub checks : (k : ℕ) → step (check_machine h) k (found_in h lines) (word i n) ≡ goes (Founds.Ciphertext s' l')
      pub formed : T (line_formed Schedule h lines (word i n))

    unless : {c : List Line} {ns : List ℕ} {o : ℕ} (n : ℕ) (d : Draft) (s l s' l' : ℕ) → Sound h d.lines c ns
        → Stands h d.lines d.number (Founds.Ciphertext s l) Ciphertext o
        → (n ≡ 0 → (s ≡ s') × (l ≡ l')) → (1 ≤ n → Converts d.lines d.number n s l s' l')
        → Grown h 1 d.lines (unless_zero word n d).lines c ns (unless_zero word n d).number (Founds.Ciphertext s' l') Ciphertext o
    unless {o} zero d s l s' l' S t z f =
        none h 1 S (subst (λ (x : Found). Stands h d.lines d.number x Ciphertext o) (ap₂ Founds.Ciphertext (z refl).0 (z refl).1) t)
    unless {c} {ns} {o} (suc n) d s l s' l' S t z f =
        let x = f (omega arith) in
        subst (λ (k : Kind). Grown h 1 d.lines (d.lines ++ (word d.number (suc n) ∷ [])) c ns (length d.lines) (Founds.Ciphertext s' l') k o) (kind d.number (suc n))
        (emit_struck h (word d.number (suc n)) (Founds.Ciphertext s' l') S t (fate d.number (suc n)) x.checks x.formed)

  -- what the check makes of a ciphertext operand
  on_operand : {lines : List Line} {i : ℕ} {o : ℕ} (s l : ℕ) (f : ℕ → ℕ → Step Found ℕ) (t : Step Found ℕ) → Stands h lines i (Founds.Ciphertext s l) Ciphertext o → f s l ≡ t
      → and_then (Rattle.model.specs.Machine.held_by (check_machine h) (found_in h lines) i) (on_ciphertext f) ≡ t
  on_operand s l f t st e = ap (λ (u : Step Found ℕ). and_then u (on_ciphertext f)) (reads h st) ∙ e

  count_ok : (n : ℕ) → 1 ≤ n → n ≤ h.top → T (within 1 60 n)
  count_ok n a b = within_passes 1 60 n (record { least = a; most = omega (arith, H.top.most) })

  bits_ok : (n l : ℕ) → 1 ≤ n → l ≤ h.top → n ≤ h.factor * l → T (within 1 3600 n)
  bits_ok n l a b c = within_passes 1 3600 n (record { least = a; most = omega (arith, few_bits l b) })

  -- ---- the three conversions in turn
  module _ (n n' l l' q : ℕ) (fits : n + h.waterline ≤ h.factor * l) (fits' : n' + h.waterline ≤ h.factor * l') (least : headroom h ≤ n') (less : n' ≤ n) (lower : l' ≤ l)
      (top : l ≤ h.top)
      (few : q ≤ l - l') (spent : h.factor * q ≤ n - n') where
    split : h.factor * l ≡ h.factor * (l - l' - q) + h.factor * l' + h.factor * q
    split = ap (λ (x : ℕ). h.factor * x) (omega arith) ∙ mul-add h.factor (l - l' - q + l') q ∙ ap (λ (x : ℕ). x + h.factor * q) (mul-add h.factor (l - l' - q) l')

    split' : h.factor * (l - q) ≡ h.factor * (l - l' - q) + h.factor * l'
    split' = ap (λ (x : ℕ). h.factor * x) (omega arith) ∙ mul-add h.factor (l - l' - q) l'

    three : {c : List Line} {ns : List ℕ} {o : ℕ} (d : Draft) → Sound h d.lines c ns → Stands h d.lines d.number (Founds.Ciphertext (h.factor * l - n) l) Ciphertext o
        → Grown h 3 d.lines (convert h (n - n') (l - l') q d).lines c ns (convert h (n - n') (l - l') q d).number (Founds.Ciphertext (h.factor * l' - n') l') Ciphertext o
    three {c} {ns} {o} d S t = then h g₁ (then h g₂ g₃)
      where
        s : ℕ
        s = h.factor * l - n

        s₂ : ℕ
        s₂ = h.factor * l - n + (n - n' - q * h.factor)

        d₁ : Draft
        d₁ = unless_zero Ms q d

        d₂ : Draft
        d₂ = unless_zero Us (n - n' - q * h.factor) d₁

        b₁ : Bounds h (h.factor * l - n) (l - q)
        b₁ = omega (arith, split, split')

        b₂ : Bounds h (h.factor * l - n + (n - n' - q * h.factor)) (l - q)
        b₂ = omega (arith, split, split')

        b₃ : Bounds h (h.factor * l' - n') l'
        b₃ = omega arith

        g₁ : Grown h 1 d.lines d₁.lines c ns d₁.number (Founds.Ciphertext s (l - q)) Ciphertext o
        g₁ = unless Ms (λ i m. refl) (λ i m. refl) q d s l s (l - q) S t (λ e. (refl, omega arith))
            (λ e. record {
              checks = λ k. on_operand s l _ _ t (ap (bounded h Founds.Ciphertext (pos s)) (sub_is l q (omega arith)) ∙ bounded_goes h Founds.Ciphertext s (l - q) b₁);
              formed = on_ciphertext_formed (within 1 60 q) (kind_at d.lines d.number) (count_ok q e (omega arith)) (kind_at_lem h t);
            })

        g₂ : Grown h 1 d₁.lines d₂.lines c ns d₂.number (Founds.Ciphertext s₂ (l - q)) Ciphertext o
        g₂ = unless Us (λ i m. refl) (λ i m. refl) (n - n' - q * h.factor) d₁ s (l - q) s₂ (l - q) g₁.sound g₁.stands (λ e. (omega arith, refl))
            (λ e. record {
              checks = λ k. on_operand s (l - q) _ _ g₁.stands (bounded_goes h Founds.Ciphertext s₂ (l - q) b₂);
              formed = on_ciphertext_formed (within 1 3600 (n - n' - q * h.factor)) (kind_at d₁.lines d₁.number) (bits_ok (n - n' - q * h.factor) l e top (omega arith))
                  (kind_at_lem h g₁.stands);
            })

        g₃ : Grown h 1 d₂.lines (convert h (n - n') (l - l') q d).lines c ns (convert h (n - n') (l - l') q d).number (Founds.Ciphertext (h.factor * l' - n') l') Ciphertext o
        g₃ = unless Rs (λ i m. refl) (λ i m. refl) (l - l' - q) d₂ s₂ (l - q) (h.factor * l' - n') l' g₂.sound g₂.stands
            (λ e. (omega (arith, split, ap (λ (x : ℕ). h.factor * x) e), omega arith))
            (λ e. record {
              checks = λ k. on_operand s₂ (l - q) _ _ g₂.stands
                  (ap₂ (bounded h Founds.Ciphertext) (sub_is s₂ (h.factor * (l - l' - q)) (omega (arith, split)) ∙ ap pos (omega (arith, split)))
                  (sub_is (l - q) (l - l' - q) (omega arith) ∙ ap pos (omega arith))
                  ∙ bounded_goes h Founds.Ciphertext (h.factor * l' - n') l' b₃);
              formed = on_ciphertext_formed (within 1 60 (l - l' - q)) (kind_at d₂.lines d₂.number) (count_ok (l - l' - q) e (omega arith)) (kind_at_lem h g₂.stands);
            })

  -- ---- a reserve at a level that a ciphertext may have
  pub record Valid (r : ℤ) (l : ℕ) : Type 0 where
    pub whole : r ≡ pos (positive r)
    pub fits : positive r + h.waterline ≤ h.factor * l
    pub least : headroom h ≤ positive r
    pub top : l ≤ h.top

  -- its scale
  abbrev pub scale_at : ℤ → ℕ → ℕ
  scale_at r l = h.factor * l - positive r

  pub valid_bounds : {r : ℤ} {l : ℕ} → Valid r l → Bounds h (scale_at r l) l
  valid_bounds {r} {l} v = omega (arith, v.fits, v.least)

  count_fits : (d k : ℕ) → h.factor * min (d / h.factor) k ≤ d
  count_fits d k = omega (arith, mul-le-mul_right h.factor (min-le_left (d / h.factor) k), div-add-mod' d h.factor)

  bring_grown : {c : List Line} {ns : List ℕ} {o : ℕ} (r : ℤ) (l : ℕ) (r' : ℤ) (l' : ℕ) (d : Draft) → Valid r l → Valid r' l' → positive r' ≤ positive r → l' ≤ l
      → Sound h d.lines c ns → Stands h d.lines d.number (Founds.Ciphertext (scale_at r l) l) Ciphertext o
      → Grown h 3 d.lines (bring h r l r' l' d).lines c ns (bring h r l r' l' d).number (Founds.Ciphertext (scale_at r' l') l') Ciphertext o
  bring_grown {c} {ns} {o} r l r' l' d v v' e e' S t = subst P distance
      (three (positive r) (positive r') l l' (switches h (positive r - positive r') (l - l')) v.fits v'.fits v'.least e e' v.top (omega arith)
      (count_fits (positive r - positive r') (l - l')) d S t)
    where
      P : ℕ → Type 0
      P m = Grown h 3 d.lines (convert h m (l - l') (switches h m (l - l')) d).lines c ns (convert h m (l - l') (switches h m (l - l')) d).number
          (Founds.Ciphertext (scale_at r' l') l') Ciphertext o

      distance : positive r - positive r' ≡ positive (r -ℤ r')
      distance = sym (ap positive (λ i. v.whole i -ℤ v'.whole i) ∙ positive_sub (positive r) (positive r'))

  -- ---- an operand of the circuit, as it stands in the schedule and as it is supplied
  abbrev pub ValidBest : Best → Type 0
  ValidBest Bests.Constant = Unit {0}
  ValidBest (Bests.Ciphertext p) = Valid p.reserve p.level

  abbrev pub found_for : Best → Found
  found_for Bests.Constant = Founds.Bare
  found_for (Bests.Ciphertext p) = Founds.Ciphertext (scale_at p.reserve p.level) p.level

  abbrev pub kind_for : Best → Kind
  kind_for Bests.Constant = Constant
  kind_for (Bests.Ciphertext p) = Ciphertext

  abbrev pub supplied_found : Best → ℤ → ℕ → Found
  supplied_found Bests.Constant r l = Founds.Encoded (scale_at r l) l
  supplied_found (Bests.Ciphertext p) r l = Founds.Ciphertext (scale_at r l) l

  abbrev pub supplied_kind : Best → Kind
  supplied_kind Bests.Constant = Encoded
  supplied_kind (Bests.Ciphertext p) = Ciphertext

  -- it can be brought to reserve r at level l
  abbrev pub Reaches : Best → ℤ → ℕ → Type 0
  Reaches Bests.Constant r l = Unit {0}
  Reaches (Bests.Ciphertext p) r l = (positive r ≤ positive p.reserve) × (l ≤ p.level)

  level_some : (r : ℤ) (l : ℕ) → Valid r l → 1 ≤ l
  level_some r zero v = omega (arith, v.fits, H.waterline.least)
  level_some r (suc l) v = omega arith

  pub supply_grown : {c : List Line} {ns : List ℕ} {o : ℕ} (b : Best) (r : ℤ) (l : ℕ) (d : Draft) → ValidBest b → Valid r l → Reaches b r l
      → Sound h d.lines c ns → Stands h d.lines d.number (found_for b) (kind_for b) o
      → Grown h 3 d.lines (supply h b r l d).lines c ns (supply h b r l d).number (supplied_found b r l) (supplied_kind b) o
  supply_grown {c} {ns} {o} Bests.Constant r l d u v x S t =
      at_most h 3 (omega arith) (emit_struck h (Enc d.number (scale_for h r l) l) (Founds.Encoded (scale_at r l) l) S t refl
      (λ k. ap (λ (s : Step Found ℕ). and_then s (on_bare (bounded h Founds.Encoded (pos (scale_for h r l)) (pos l)))) (reads h t)
      ∙ ap (λ (s : ℕ). bounded h Founds.Encoded (pos s) (pos l)) scale ∙ bounded_goes h Founds.Encoded (scale_at r l) l (valid_bounds v))
      (on_constant_formed (within 1 3600 (scale_for h r l) && within 1 h.top l) (kind_at d.lines d.number)
      (and_both (within 1 3600 (scale_for h r l)) (within 1 h.top l)
      (subst (λ (s : ℕ). T (within 1 3600 s)) (sym scale) (bits_ok (scale_at r l) l (omega (arith, (valid_bounds v).low, H.waterline.least)) v.top (omega arith)))
      (within_passes 1 h.top l (record { least = level_some r l v; most = v.top })))
      (kind_at_lem h t)))
    where
      scale : scale_for h r l ≡ scale_at r l
      scale = ap (λ (z : ℤ). positive (pos (h.factor * l) -ℤ z)) v.whole ∙ positive_sub (h.factor * l) (positive r)
  supply_grown (Bests.Ciphertext p) r l d u v x S t = bring_grown p.reserve p.level r l d u v x.0 x.1 S t
