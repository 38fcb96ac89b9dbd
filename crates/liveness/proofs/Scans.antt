-- A value's entry against the scan of all later lines: whether it may be dropped, and how many ciphertexts are live. Assumes nothing.
use Prim.Native.Nat.{ℕ, zero, suc, ◌+◌, ◌-◌, ◌≤◌, ◌<◌}
use native.Mathlib.Nat.{add-zero}
use native.Mathlib.Omega.{arith}
use mathlib.Core.Path.{◌≡◌, refl, sym, ap, ◌∙◌, subst}
use mathlib.Core.Bool.{Bool, true, false, cond, not, ◌&&◌, ◌||◌}
use mathlib.Core.List.{List, [], ◌∷◌, ◌++◌}
use mathlib.Core.Logic.{◌⊎◌, inl, inr, ⊎_elim}
use borrow.Author.Tests.{lt-ltb, le-ltb, le-leb, lt-leb}
use lib.Dec.{T, eqb, leb, ltb, eqb→eq}
use lib.ListN.{length, get_or, take, drop, length-drop}
use lib.Seq.{length-take-le, get_or-take, get_or-drop}
use Rattle.model.specs.declared.Grammar.TheVariants.{Schedule}
use Rattle.model.specs.declared.Header.{Header}
use Rattle.model.specs.declared.Line.{Line}
use Rattle.model.specs.declared.Line.TheVariants.{Free}
use Rattle.model.specs.Files.{operands, kind_at, is_ciphertext, is_usable, every_usable, well_formed}
use Rattle.model.proofs.Formed.{usable_below, well_lines, formed_index}
use Rattle.model.proofs.Tests.{and_first, and_second, or_cases, or_first, or_second, below_or_not}
use Rattle.liveness.specs.Live.{is_among, names, any_names, named_later, may_drop, last_naming, entry_of, one_if, how_many, live_after, answered_no}
use Rattle.liveness.specs.Kept.{starts_live}
use Rattle.liveness.proofs.Tests.{or_true, or_false, and_false, not_not, not_below, either}

-- ---- lines that name values of earlier lines alone
pub record NamesEarlier (lines : List Line) : Type 0 where
  pub below : (j v : ℕ) → j < length lines → T (names (get_or lines j Free) v) → v < j

among_usable : (before : List Line) (named : List ℕ) (v : ℕ) → T (every_usable before named) → T (is_among named v) → v < length before
among_usable before [] v u t = absurd t
among_usable before (a ∷ named) v u t =
    or_cases (eqb a v) (is_among named v) t
    (λ same. subst (λ (n : ℕ). n < length before) (eqb→eq a v same) (usable_below before a (and_first (is_usable (kind_at before a)) (every_usable before named) u)))
    (λ more. among_usable before named v (and_second (is_usable (kind_at before a)) (every_usable before named) u) more)

pub names_earlier : (h : Header) (lines : List Line) → T (well_formed Schedule h lines) → NamesEarlier lines
unfolding names
names_earlier h lines t =
    record {
      below = λ j v inside named.
          let usable = (formed_index Schedule h lines (well_lines Schedule h lines t) j inside).usable in
          let below = among_usable (take j lines) (operands (get_or lines j Free)) v usable named in
          omega (arith, below, length-take-le j lines (omega arith));
    }

-- ---- the last of some lines that names value v
module _ (v : ℕ) where
  -- lines that all come after line l
  past : (l i otherwise : ℕ) (lines : List Line) → l < i → ltb l (last_naming v i otherwise lines) ≡ ltb l otherwise || any_names lines v
  past l i otherwise [] h = sym (or_false (ltb l otherwise))
  past l i otherwise (x ∷ lines) h = past l (suc i) (cond (names x v) i otherwise) lines (omega arith) ∙ go (names x v)
    where
      go : (b : Bool) → ltb l (cond b i otherwise) || any_names lines v ≡ ltb l otherwise || (b || any_names lines v)
      go true = ap (λ (c : Bool). c || any_names lines v) (lt-ltb l i h) ∙ sym (or_true (ltb l otherwise))
      go false = refl

  -- lines of which the first k come up to line l
  scanned : (l k i otherwise : ℕ) (lines : List Line) → suc l ≡ i + k → otherwise ≤ l → ltb l (last_naming v i otherwise lines) ≡ any_names (drop k lines) v
  scanned l zero i otherwise lines e h = past l i otherwise lines (omega arith) ∙ ap (λ (c : Bool). c || any_names lines v) (le-ltb l otherwise h)
  scanned l (suc k) i otherwise [] e h = le-ltb l otherwise h
  scanned l (suc k) i otherwise (x ∷ lines) e h =
      scanned l k (suc i) (cond (names x v) i otherwise) lines (omega arith) (either (λ n. n ≤ l) (names x v) i otherwise (omega arith) h)

  -- "still named later", by the entry
  pub entry_later : (lines : List Line) (l : ℕ) → v ≤ l → ltb l (entry_of lines v) ≡ named_later lines v l
  unfolding entry_of named_later
  entry_later lines l h = scanned l (suc l) 0 v lines (omega arith) h

  -- one line more
  last_snoc : (i otherwise : ℕ) (lines : List Line) (x : Line) → last_naming v i otherwise (lines ++ (x ∷ [])) ≡ cond (names x v) (i + length lines) (last_naming v i otherwise lines)
  last_snoc i otherwise [] x = ap (λ (n : ℕ). cond (names x v) n otherwise) (sym (add-zero i))
  last_snoc i otherwise (y ∷ lines) x =
      last_snoc (suc i) (cond (names y v) i otherwise) lines x
      ∙ ap (λ (n : ℕ). cond (names x v) n (last_naming v (suc i) (cond (names y v) i otherwise) lines)) (omega arith)

  pub entry_snoc : (lines : List Line) (x : Line) → entry_of (lines ++ (x ∷ [])) v ≡ cond (names x v) (length lines) (entry_of lines v)
  unfolding entry_of
  entry_snoc lines x = last_snoc 0 v lines x ∙ ap (λ (n : ℕ). cond (names x v) n (last_naming v 0 v lines)) (omega arith)

  -- lines of which none names it
  unnamed : (i otherwise : ℕ) (lines : List Line) → ((j : ℕ) → j < length lines → T (names (get_or lines j Free) v) → ⊥) → last_naming v i otherwise lines ≡ otherwise
  unnamed i otherwise [] none = refl
  unnamed i otherwise (x ∷ lines) none =
      unnamed (suc i) (cond (names x v) i otherwise) lines (λ j l t. none (suc j) (omega arith) t) ∙ go (names x v) (none 0 (omega arith))
    where
      go : (b : Bool) → (T b → ⊥) → cond b i otherwise ≡ otherwise
      go true f = absurd (f tt)
      go false f = refl

  pub entry_unnamed : (lines : List Line) → ((j : ℕ) → j < length lines → T (names (get_or lines j Free) v) → ⊥) → entry_of lines v ≡ v
  unfolding entry_of
  entry_unnamed lines none = unnamed 0 v lines none

  -- bounds
  last_high : (i otherwise : ℕ) (lines : List Line) → otherwise < i + length lines → last_naming v i otherwise lines < i + length lines
  last_high i otherwise [] h = h
  last_high i otherwise (x ∷ lines) h =
      let p = last_high (suc i) (cond (names x v) i otherwise) lines (either (λ n. n < suc i + length lines) (names x v) i otherwise (omega arith) (omega arith)) in
      omega (arith, p)

  pub entry_high : (lines : List Line) → v < length lines → entry_of lines v < length lines
  unfolding entry_of
  entry_high lines h = let p = last_high 0 v lines (omega arith) in omega (arith, p)

  last_low : (i otherwise : ℕ) (lines : List Line) → v ≤ otherwise → ((j : ℕ) → j < length lines → T (names (get_or lines j Free) v) → v ≤ i + j) → v ≤ last_naming v i otherwise lines
  last_low i otherwise [] h later = h
  last_low i otherwise (x ∷ lines) h later =
      last_low (suc i) (cond (names x v) i otherwise) lines (go (names x v) (later 0 (omega arith)))
      (λ j l t. let p = later (suc j) (omega arith) t in omega (arith, p))
    where
      go : (b : Bool) → (T b → v ≤ i + 0) → v ≤ cond b i otherwise
      go true f = let p = f tt in omega (arith, p)
      go false f = h

  -- it is this one, or it names the value
  record NamedIn (i : ℕ) (lines : List Line) (n : ℕ) : Type 0 where
    pub place : ℕ
    pub is : n ≡ i + place
    pub names_it : T (names (get_or lines place Free) v)

  named_or : (i otherwise : ℕ) (lines : List Line) → (last_naming v i otherwise lines ≡ otherwise) ⊎ NamedIn i lines (last_naming v i otherwise lines)
  named_or i otherwise [] = inl refl
  named_or i otherwise (x ∷ lines) = go (names x v) refl (named_or (suc i) (cond (names x v) i otherwise) lines)
    where
      go : {found : ℕ} (b : Bool) → names x v ≡ b → (found ≡ cond (names x v) i otherwise) ⊎ NamedIn (suc i) lines found → (found ≡ otherwise) ⊎ NamedIn i (x ∷ lines) found
      go b e (inr n) = inr (record { place = suc n.place; is = omega (arith, n.is); names_it = n.names_it })
      go true e (inl f) = inr (record { place = 0; is = f ∙ ap (λ (b : Bool). cond b i otherwise) e ∙ sym (add-zero i); names_it = subst T (sym e) tt })
      go false e (inl f) = inl (f ∙ ap (λ (b : Bool). cond b i otherwise) e)

  pub entry_names : (lines : List Line) → (entry_of lines v ≡ v → ⊥) → T (names (get_or lines (entry_of lines v) Free) v)
  unfolding entry_of
  entry_names lines other =
      ⊎_elim (λ e. absurd (other e))
      (λ n. let same : n.place ≡ last_naming v 0 v lines = omega (arith, n.is) in subst (λ (m : ℕ). T (names (get_or lines m Free) v)) same n.names_it)
      (named_or 0 v lines)

  any_at : (lines : List Line) (k : ℕ) → k < length lines → T (names (get_or lines k Free) v) → T (any_names lines v)
  any_at [] k inside t = absurd (omega arith)
  any_at (x ∷ lines) zero inside t = or_first (names x v) (any_names lines v) t
  any_at (x ∷ lines) (suc k) inside t = or_second (names x v) (any_names lines v) (any_at lines k (omega arith) t)

-- ---- lines of a schedule
module _ (lines : List Line) (earlier : NamesEarlier lines) where
  pub entry_low : (v : ℕ) → v ≤ entry_of lines v
  unfolding entry_of
  entry_low v = last_low v 0 v lines (omega arith) (λ j inside named. let p = earlier.below j v inside named in omega (arith, p))

  pub none_later : (v l : ℕ) → entry_of lines v < l → l < length lines → T (names (get_or lines l Free) v) → ⊥
  unfolding named_later
  none_later v l past inside named =
      let e = entry_of lines v in
      let none : named_later lines v e ≡ false = sym (entry_later v lines e (entry_low v)) ∙ le-ltb e e (omega arith) in
      let k = l - suc e in
      let at : suc e + k ≡ l = omega (arith, past) in
      let there : T (names (get_or (drop (suc e) lines) k Free) v) =
      subst (λ (x : Line). T (names x v)) (ap (λ (n : ℕ). get_or lines n Free) (sym at) ∙ sym (get_or-drop (suc e) lines k Free)) named in
      subst T none (any_at v (drop (suc e) lines) k (omega (arith, past, inside, length-drop (suc e) lines)) there)

  -- no line up to its own names a value
  pub entry_first : (v : ℕ) → v ≤ length lines → entry_of (take v lines) v ≡ v
  entry_first v within =
      entry_unnamed v (take v lines)
      (λ j inside named.
      let short : j < v = omega (arith, inside, length-take-le v lines within) in
      let there : T (names (get_or lines j Free) v) = subst (λ (x : Line). T (names x v)) (get_or-take v lines j Free short) named in
      let p = earlier.below j v (omega arith) there in
      omega (arith, p, short))

  -- the answer from the entry is the scan's
  pub drop_by_entry : (v l : ℕ) → may_drop lines v l ≡ leb (entry_of lines v) l
  unfolding may_drop
  drop_by_entry v l = ⊎_elim before from (below_or_not l v)
    where
      before : l < v → leb v l && not (named_later lines v l) ≡ leb (entry_of lines v) l
      before less =
          let low = entry_low v in
          ap (λ (b : Bool). b && not (named_later lines v l)) (lt-leb v l less) ∙ sym (lt-leb (entry_of lines v) l (omega (arith, low)))

      from : v ≤ l → leb v l && not (named_later lines v l) ≡ leb (entry_of lines v) l
      from most =
          ap (λ (b : Bool). b && not (named_later lines v l)) (le-leb v l most)
          ∙ ap not (sym (entry_later v lines l most)) ∙ not_below l (entry_of lines v)

-- ---- counting
module _ (p q : ℕ → Bool) where
  pub many_same : (n : ℕ) → ((v : ℕ) → v < n → p v ≡ q v) → how_many p n ≡ how_many q n
  many_same zero same = refl
  many_same (suc n) same =
      let before = many_same n (λ v l. same v (omega arith)) in
      let here = ap one_if (same n (omega arith)) in
      omega (arith, before, here)

pub one_most : (b : Bool) → one_if b ≤ 1
one_most true = omega arith
one_most false = omega arith

pub many_most : (p : ℕ → Bool) (n : ℕ) → how_many p n ≤ n
many_most p zero = omega arith
many_most p (suc n) = let before = many_most p n in let here = one_most (p n) in omega (arith, before, here)

-- numbers that pass p pass just one of q and r
pub many_parts : (p q r : ℕ → Bool) (n : ℕ) → ((v : ℕ) → v < n → one_if (p v) ≡ one_if (q v) + one_if (r v)) → how_many p n ≡ how_many q n + how_many r n
many_parts p q r zero parts = refl
many_parts p q r (suc n) parts =
    let before = many_parts p q r n (λ v l. parts v (omega arith)) in
    let here = parts n (omega arith) in
    omega (arith, before, here)

-- what is named later has the answer no
pub no_is_live : (lines : List Line) (l : ℕ) → answered_no lines l ≡ live_after lines l
unfolding answered_no live_after may_drop
no_is_live lines l =
    many_same (λ v. is_ciphertext (kind_at lines v) && not (leb v l && not (named_later lines v l))) (λ v. is_ciphertext (kind_at lines v) && named_later lines v l) (suc l)
    (λ v within.
    ap (λ (b : Bool). is_ciphertext (kind_at lines v) && not (b && not (named_later lines v l))) (le-leb v l (omega arith))
    ∙ ap (λ (b : Bool). is_ciphertext (kind_at lines v) && b) (not_not (named_later lines v l)))

pub live_most : (lines : List Line) (l : ℕ) → live_after lines l ≤ suc l
unfolding live_after
live_most lines l = many_most (λ v. is_ciphertext (kind_at lines v) && named_later lines v l) (suc l)

-- the count by the entries
abbrev pub lives_to : List Line → ℕ → ℕ → Bool
lives_to lines i v = starts_live lines v (entry_of lines v) && leb i (entry_of lines v)

pub live_by_entries : (lines : List Line) (l : ℕ) → live_after lines l ≡ how_many (lives_to lines (suc l)) (suc l)
unfolding live_after
live_by_entries lines l =
    many_same (λ v. is_ciphertext (kind_at lines v) && named_later lines v l) (lives_to lines (suc l)) (suc l)
    (λ v within. ap (λ (b : Bool). is_ciphertext (kind_at lines v) && b) (sym (entry_later v lines l (omega arith))) ∙ go (is_ciphertext (kind_at lines v)) v within)
  where
    later : (v : ℕ) → v < suc l → ltb l (entry_of lines v) ≡ ltb v (entry_of lines v) && leb (suc l) (entry_of lines v)
    later v within =
        ⊎_elim
        (λ more. lt-ltb l (entry_of lines v) more ∙ sym (ap (λ (b : Bool). b && leb (suc l) (entry_of lines v)) (lt-ltb v (entry_of lines v) (omega arith)) ∙ le-leb (suc l) (entry_of lines v) (omega arith)))
        (λ most.
        let none : leb (suc l) (entry_of lines v) ≡ false = lt-leb (suc l) (entry_of lines v) (omega arith) in
        le-ltb l (entry_of lines v) most ∙ sym (ap (λ (b : Bool). ltb v (entry_of lines v) && b) none ∙ and_false (ltb v (entry_of lines v))))
        (below_or_not l (entry_of lines v))

    go : (c : Bool) (v : ℕ) → v < suc l → c && ltb l (entry_of lines v) ≡ (c && ltb v (entry_of lines v)) && leb (suc l) (entry_of lines v)
    go true v within = later v within
    go false v within = refl
