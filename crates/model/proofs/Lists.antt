-- Lists that hold what lines hold: a new value goes to the end, and a look finds one or none. Assumes nothing.
use Prim.Native.Nat.{ℕ, zero, suc, ◌<◌, ◌≤◌}
use native.Mathlib.Nat.{not-suc-le-zero, le_of_suc-le-suc}
use native.Mathlib.Omega.{arith}
use native.Mathlib.Numerals.{add-one}
use mathlib.Core.Path.{◌≡◌, refl, ap, ◌∙◌}
use mathlib.Core.List.{List, [], ◌∷◌, ◌++◌}
use mathlib.Core.Option.{none, some, some-injective, none-ne-some}
use lib.ListN.{length, get_or, get_elem?, length-append}

module _ {X : Type 0} where
  pub length_snoc : (l : List X) (x : X) → length (l ++ (x ∷ [])) ≡ suc (length l)
  length_snoc l x = length-append l (x ∷ []) ∙ add-one (length l)

  -- ---- what a look finds
  pub found_below : (l : List X) (i : ℕ) {x : X} → get_elem? l i ≡ some x → i < length l
  found_below [] i e = absurd (none-ne-some _ e)
  found_below (y ∷ l) zero e = omega arith
  found_below (y ∷ l) (suc i) e = let h = found_below l i e in omega arith

  pub found_after : (l t : List X) (i : ℕ) {x : X} → get_elem? l i ≡ some x → get_elem? (l ++ t) i ≡ some x
  found_after [] t i e = absurd (none-ne-some _ e)
  found_after (y ∷ l) t zero e = e
  found_after (y ∷ l) t (suc i) e = found_after l t i e

  pub found_last : (l : List X) (x : X) → get_elem? (l ++ (x ∷ [])) (length l) ≡ some x
  found_last [] x = refl
  found_last (y ∷ l) x = found_last l x

  pub found_at : (l : List X) (i : ℕ) (d : X) → i < length l → get_elem? l i ≡ some (get_or l i d)
  found_at [] i d h = absurd (not-suc-le-zero h)
  found_at (y ∷ l) zero d h = refl
  found_at (y ∷ l) (suc i) d h = found_at l i d (le_of_suc-le-suc h)

  pub found_is : (l : List X) (i : ℕ) (d : X) {x : X} → get_elem? l i ≡ some x → get_or l i d ≡ x
  found_is [] i d e = absurd (none-ne-some _ e)
  found_is (y ∷ l) zero d e = some-injective y _ e
  found_is (y ∷ l) (suc i) d e = found_is l i d e

  pub none_past : (l : List X) (i : ℕ) → length l ≤ i → get_elem? l i ≡ none
  none_past [] i h = refl
  none_past (y ∷ l) zero h = absurd (not-suc-le-zero h)
  none_past (y ∷ l) (suc i) h = none_past l i (le_of_suc-le-suc h)

  -- of one list an element more: an old place, or the last
  pub found_snoc : (l : List X) (x : X) (i : ℕ) {y : X} → get_elem? (l ++ (x ∷ [])) i ≡ some y → (P : Type 0) → (get_elem? l i ≡ some y → P) → (i ≡ length l → x ≡ y → P) → P
  found_snoc [] x zero e P f g = g refl (some-injective x _ e)
  found_snoc [] x (suc i) e P f g = absurd (none-ne-some _ e)
  found_snoc (z ∷ l) x zero e P f g = f e
  found_snoc (z ∷ l) x (suc i) e P f g = found_snoc l x i e P f (λ p. g (ap suc p))

  -- ---- all of one list
  pub data All (P : X → Type 0) : List X → Type 0 where
    nil : All P []
    cons : {x : X} {xs : List X} → P x → All P xs → All P (x ∷ xs)

  pub all_snoc : {P : X → Type 0} {h : List X} {x : X} → All P h → P x → All P (h ++ (x ∷ []))
  all_snoc nil p = cons p nil
  all_snoc (cons q t) p = cons q (all_snoc t p)

  pub all_map : {P Q : X → Type 0} {h : List X} → ((x : X) → P x → Q x) → All P h → All Q h
  all_map f nil = nil
  all_map f (cons {x = x} q t) = cons (f x q) (all_map f t)

  pub all_found : {P : X → Type 0} {h : List X} → All P h → (i : ℕ) {x : X} → get_elem? h i ≡ some x → P x
  all_found nil i e = absurd (none-ne-some _ e)
  all_found {P} (cons {x = y} q t) zero e = mathlib.Core.Path.subst P (some-injective y _ e) q
  all_found (cons q t) (suc i) e = all_found t i e

-- ---- two and three lists side by side
module _ {X Y : Type 0} where
  pub data All2 (R : X → Y → Type 0) : List X → List Y → Type 0 where
    nil2 : All2 R [] []
    cons2 : {x : X} {y : Y} {xs : List X} {ys : List Y} → R x y → All2 R xs ys → All2 R (x ∷ xs) (y ∷ ys)

  pub snoc2 : {R : X → Y → Type 0} {f : List X} {g : List Y} {x : X} {y : Y} → All2 R f g → R x y → All2 R (f ++ (x ∷ [])) (g ++ (y ∷ []))
  snoc2 nil2 p = cons2 p nil2
  snoc2 (cons2 q t) p = cons2 q (snoc2 t p)

  pub map2 : {R S : X → Y → Type 0} {f : List X} {g : List Y} → ((x : X) (y : Y) → R x y → S x y) → All2 R f g → All2 S f g
  map2 k nil2 = nil2
  map2 k (cons2 {x = x} {y = y} q t) = cons2 (k x y q) (map2 k t)

  pub length2 : {R : X → Y → Type 0} {f : List X} {g : List Y} → All2 R f g → length f ≡ length g
  length2 nil2 = refl
  length2 (cons2 q t) = ap suc (length2 t)

  -- what stands beside a found element
  pub record Beside (R : X → Y → Type 0) (x : X) (g : List Y) (i : ℕ) : Type 0 where
    pub other : Y
    pub there : get_elem? g i ≡ some other
    pub related : R x other

  pub beside : {R : X → Y → Type 0} {f : List X} {g : List Y} → All2 R f g → (i : ℕ) {x : X} → get_elem? f i ≡ some x → Beside R x g i
  beside nil2 i e = absurd (none-ne-some _ e)
  beside {R} (cons2 {x = z} {y = y} q t) zero e = record { other = y; there = refl; related = mathlib.Core.Path.subst (λ (w : X). R w y) (some-injective z _ e) q }
  beside (cons2 q t) (suc i) e = let b = beside t i e in record { other = b.other; there = b.there; related = b.related }

pub flip2 : {X Y : Type 0} {R : X → Y → Type 0} {f : List X} {g : List Y} → All2 R f g → All2 (λ y x. R x y) g f
flip2 nil2 = nil2
flip2 (cons2 q t) = cons2 q (flip2 t)

module _ {X Y Z : Type 0} where
  pub data All3 (R : X → Y → Z → Type 0) : List X → List Y → List Z → Type 0 where
    nil3 : All3 R [] [] []
    cons3 : {x : X} {y : Y} {z : Z} {xs : List X} {ys : List Y} {zs : List Z} → R x y z → All3 R xs ys zs → All3 R (x ∷ xs) (y ∷ ys) (z ∷ zs)

  pub snoc3 : {R : X → Y → Z → Type 0} {f : List X} {g : List Y} {h : List Z} {x : X} {y : Y} {z : Z} → All3 R f g h → R x y z
      → All3 R (f ++ (x ∷ [])) (g ++ (y ∷ [])) (h ++ (z ∷ []))
  snoc3 nil3 p = cons3 p nil3
  snoc3 (cons3 q t) p = cons3 q (snoc3 t p)

  -- the first two of three
  pub front2 : {R : X → Y → Z → Type 0} {S : X → Y → Type 0} {f : List X} {g : List Y} {h : List Z} → ((x : X) (y : Y) (z : Z) → R x y z → S x y) → All3 R f g h → All2 S f g
  front2 k nil3 = nil2
  front2 k (cons3 {x = x} {y = y} {z = z} q t) = cons2 (k x y z q) (front2 k t)

  pub length3 : {R : X → Y → Z → Type 0} {f : List X} {g : List Y} {h : List Z} → All3 R f g h → (length f ≡ length g) × (length f ≡ length h)
  length3 nil3 = (refl, refl)
  length3 (cons3 q t) = let l = length3 t in (ap suc l.0, ap suc l.1)

  -- what stands beside an element of the second list
  pub record Between (R : X → Y → Z → Type 0) (f : List X) (y : Y) (h : List Z) (i : ℕ) : Type 0 where
    pub left : X
    pub right : Z
    pub left_there : get_elem? f i ≡ some left
    pub right_there : get_elem? h i ≡ some right
    pub related : R left y right

  pub between : {R : X → Y → Z → Type 0} {f : List X} {g : List Y} {h : List Z} → All3 R f g h → (i : ℕ) {y : Y} → get_elem? g i ≡ some y → Between R f y h i
  between nil3 i e = absurd (none-ne-some _ e)
  between {R} (cons3 {x = x} {y = w} {z = z} q t) zero e =
      record { left = x; right = z; left_there = refl; right_there = refl; related = mathlib.Core.Path.subst (λ (v : Y). R x v z) (some-injective w _ e) q }
  between (cons3 q t) (suc i) e = let b = between t i e in
      record { left = b.left; right = b.right; left_there = b.left_there; right_there = b.right_there; related = b.related }
