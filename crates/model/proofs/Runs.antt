-- Steps and runs are told apart: one that stops does not go on, and what goes on has one value. A run that finishes keeps what was held, and goes
-- on with the lines that follow. Assumes nothing.
use Prim.Native.Nat.{ℕ, suc, ◌+◌, ◌<◌}
use native.Mathlib.Omega.{arith}
use mathlib.Core.Path.{◌≡◌, refl, sym, ap, ◌∙◌}
use mathlib.Core.List.{List, [], ◌∷◌, ◌++◌}
use mathlib.Core.Option.{Option, none, some}
use lib.ListN.{length, get_elem?, take}
use Rattle.model.specs.declared.Line.{Line}
use Rattle.model.specs.Machine.{Step, goes, stops, Run, finished, stopped, Machine, step, count_in, run_from, run}
use Rattle.model.proofs.Lists.{found_after, length_snoc}

module _ {X E : Type 0} where
  -- what an operand's line holds, found or not
  abbrev pub or_absent : E → Option X → Step X E
  or_absent e o = elim o [ none ↦ stops e | some x ↦ goes x ]

  pub stops_goes : {P : Type 0} {e : E} {x : X} → ◌≡◌ {A = Step X E} (stops e) (goes x) → P
  stops_goes p = absurd (let z : ◌≡◌ {A = ℕ} 0 1 = cc in omega arith)

  pub goes_is : {x y : X} → ◌≡◌ {A = Step X E} (goes x) (goes y) → x ≡ y
  goes_is p = cc

  pub stopped_finished : {P : Type 0} {i : ℕ} {e : E} {held : List X} → ◌≡◌ {A = Run X E} (stopped i e) (finished held) → P
  stopped_finished p = absurd (let z : ◌≡◌ {A = ℕ} 0 1 = cc in omega arith)

  pub finished_is : {held after : List X} → ◌≡◌ {A = Run X E} (finished held) (finished after) → held ≡ after
  finished_is p = cc

  pub stopped_line : {i j : ℕ} {d e : E} → ◌≡◌ {A = Run X E} (stopped i d) (stopped j e) → i ≡ j
  stopped_line p = cc

  pub stopped_is : {i j : ℕ} {d e : E} → ◌≡◌ {A = Run X E} (stopped i d) (stopped j e) → d ≡ e
  stopped_is p = cc

module _ {X E : Type 0} (M : Machine X E) where
  -- what was held is held at the end
  pub kept_on : (xs : List Line) (k : ℕ) (held : List X) {final : List X} → run_from M k held xs ≡ finished final → (a : ℕ) {v : X} → get_elem? held a ≡ some v
      → get_elem? final a ≡ some v
  kept_on [] k held e a p = ap (λ (l : List X). get_elem? l a) (sym (finished_is e)) ∙ p
  kept_on (x ∷ xs) k held {final} e a {v} p = go (step M k held x) e (λ w q. kept_on xs (count_in x k) (held ++ (w ∷ [])) q a (found_after held (w ∷ []) a p))
    where
      go : (s : Step X E) → ◌≡◌ {A = Run X E} (elim s [ goes w ↦ run_from M (count_in x k) (held ++ (w ∷ [])) xs | stops n ↦ stopped (length held) n ]) (finished final)
          → ((w : X) → run_from M (count_in x k) (held ++ (w ∷ [])) xs ≡ finished final → get_elem? final a ≡ some v) → get_elem? final a ≡ some v
      go (goes w) q r = r w q
      go (stops n) q r = stopped_finished q

  -- a run that finished goes on with the next lines
  pub record Continued (k : ℕ) (held : List X) (xs ys : List Line) (after : List X) : Type 0 where
    pub ins : ℕ
    pub goes_on : run_from M k held (xs ++ ys) ≡ run_from M ins after ys

  pub continued : (xs : List Line) (k : ℕ) (held : List X) (ys : List Line) (after : List X) → run_from M k held xs ≡ finished after → Continued k held xs ys after
  continued [] k held ys after e = record { ins = k; goes_on = ap (λ (l : List X). run_from M k l ys) (finished_is e) }
  continued (x ∷ xs) k held ys after e = go (step M k held x) e (λ v e'. continued xs (count_in x k) (held ++ (v ∷ [])) ys after e') (λ r p. p)
    where
      whole : Step X E → List Line → Run X E
      whole s zs = elim s [ goes v ↦ run_from M (count_in x k) (held ++ (v ∷ [])) zs | stops d ↦ stopped (length held) d ]

      go : (s : Step X E) → whole s xs ≡ finished after
          → ((v : X) → run_from M (count_in x k) (held ++ (v ∷ [])) xs ≡ finished after → Continued (count_in x k) (held ++ (v ∷ [])) xs ys after)
          → ((r : ℕ) → whole s (xs ++ ys) ≡ run_from M r after ys → whole (step M k held x) (xs ++ ys) ≡ run_from M r after ys)
          → Continued k held (x ∷ xs) ys after
      go (stops d) p n back = stopped_finished p
      go (goes v) p n back = let c = n v p in record { ins = c.ins; goes_on = back c.ins c.goes_on }

  -- one line more
  pub run_snoc : (xs : List Line) (x : Line) {held : List X} {v : X} → run M xs ≡ finished held → ((k : ℕ) → step M k held x ≡ goes v)
      → run M (xs ++ (x ∷ [])) ≡ finished (held ++ (v ∷ []))
  run_snoc xs x {held} {v} e f =
      let c = continued xs 0 [] (x ∷ []) held e in
      c.goes_on ∙ ap (λ (s : Step X E). elim s [ goes v ↦ finished (held ++ (v ∷ [])) | stops d ↦ stopped (length held) d ]) (f c.ins)

  -- the line that stops: the lines before it run to the end, and with it they stop there
  pub record StopsFirst (k : ℕ) (held : List X) (xs : List Line) (i : ℕ) (e : E) : Type 0 where
    pub offset : ℕ
    pub place : i ≡ length held + offset
    pub below : offset < length xs
    pub after : List X
    pub before : run_from M k held (take offset xs) ≡ finished after
    pub with_it : run_from M k held (take (suc offset) xs) ≡ stopped i e

  stops_at : (xs : List Line) (k : ℕ) (held : List X) (i : ℕ) (e : E) → run_from M k held xs ≡ stopped i e → StopsFirst k held xs i e
  stops_at [] k held i e p = stopped_finished (sym p)
  stops_at (x ∷ xs) k held i e p = go (step M k held x) p (λ v q. stops_at xs (count_in x k) (held ++ (v ∷ [])) i e q) (λ zs r q. q)
    where
      whole : Step X E → List Line → Run X E
      whole s zs = elim s [ goes v ↦ run_from M (count_in x k) (held ++ (v ∷ [])) zs | stops d ↦ stopped (length held) d ]

      go : (s : Step X E) → whole s xs ≡ stopped i e
          → ((v : X) → run_from M (count_in x k) (held ++ (v ∷ [])) xs ≡ stopped i e → StopsFirst (count_in x k) (held ++ (v ∷ [])) xs i e)
          → ((zs : List Line) (r : Run X E) → whole s zs ≡ r → whole (step M k held x) zs ≡ r)
          → StopsFirst k held (x ∷ xs) i e
      go (stops d) q n back =
          record { offset = 0; place = omega (arith, stopped_line q); below = omega arith; after = held; before = refl; with_it = back [] (stopped i e) q }
      go (goes v) q n back =
          let f = n v q in
          record {
            offset = suc f.offset;
            place = omega (arith, f.place, length_snoc held v);
            below = omega (arith, f.below);
            after = f.after;
            before = back (take f.offset xs) (finished f.after) f.before;
            with_it = back (take (suc f.offset) xs) (stopped i e) f.with_it;
          }

  -- of a whole file
  pub record FirstStop (xs : List Line) (i : ℕ) (e : E) : Type 0 where
    pub below : i < length xs
    pub after : List X
    pub before : run M (take i xs) ≡ finished after
    pub with_it : run M (take (suc i) xs) ≡ stopped i e

  pub first_stop : (xs : List Line) (i : ℕ) (e : E) → run M xs ≡ stopped i e → FirstStop xs i e
  first_stop xs i e p =
      let f = stops_at xs 0 [] i e p in
      let here : f.offset ≡ i = omega (arith, f.place) in
      record {
        below = omega (arith, f.below);
        after = f.after;
        before = ap (λ (j : ℕ). run M (take j xs)) (sym here) ∙ f.before;
        with_it = ap (λ (j : ℕ). run M (take (suc j) xs)) (sym here) ∙ f.with_it;
      }
