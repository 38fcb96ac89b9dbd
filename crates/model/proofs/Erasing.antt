-- Erasing and machines: what a line of a schedule holds, in a machine that passes through the struck lines, is what the circuit's line
-- holds that it is or was made from. Assumes nothing.
use Prim.Native.Nat.{ℕ, zero, suc}
use mathlib.Core.Path.{◌≡◌, refl, sym, ap, ◌∙◌, subst}
use mathlib.Core.List.{List, [], ◌∷◌, ◌++◌}
use mathlib.Core.Option.{some}
use lib.ListN.{length, get_or, get_elem?}
use Rattle.model.specs.declared.Line.{Line}
use Rattle.model.specs.declared.Line.TheVariants.{In, Const, Neg, Rot, Add, Mul, Out, Enc, Rs, Ms, Us, Free}
use Rattle.model.specs.Machine.{Step, goes, stops, Run, finished, stopped, Machine, and_then, held_by, step, count_in, run_from, run}
use Rattle.model.specs.Services.{Fate, kept, made_from, fate_of, renumbered, erase_from, erase}
use Rattle.model.proofs.Statements.Erasing.{origins_from, origins}
use Rattle.model.proofs.Runs.{or_absent, stops_goes, goes_is}
use Rattle.model.proofs.Lists.{length_snoc, found_after, found_last, All2, nil2, cons2, snoc2, map2}

-- the machine that passes through the struck lines
abbrev pub through : {X E : Type 0} → Machine X E → Machine X E
through M =
    record {
      absent = M.absent;
      input = M.input;
      constant = M.constant;
      neg = M.neg;
      rot = M.rot;
      add = M.add;
      mul = M.mul;
      out = M.out;
      enc = λ x s e. goes x;
      rs = λ x c. goes x;
      ms = λ x c. goes x;
      us = λ x b. goes x;
    }

-- circuit line o holds what a line made from it holds
abbrev pub Holds : {X : Type 0} → List X → ℕ → X → Type 0
Holds circuit o x = get_elem? circuit o ≡ some x

module _ {X E : Type 0} where
  -- the second goes where the first goes, with the same value
  abbrev Refines : Step X E → Step X E → Type 0
  Refines (stops e) t = Unit {0}
  Refines (goes x) t = t ≡ goes x

  refines_refl : (s : Step X E) → Refines s s
  refines_refl (stops e) = tt
  refines_refl (goes x) = refl

  refines_then : (s t : Step X E) (f g : X → Step X E) → Refines s t → ((x : X) → Refines (f x) (g x)) → Refines (and_then s f) (and_then t g)
  refines_then (stops e) t f g r n = tt
  refines_then (goes x) t f g r n = subst (λ (u : Step X E). Refines (f x) (and_then u g)) (sym r) (n x)

module _ {X E : Type 0} (M : Machine X E) where
  look_refines : (R : List X) {O : List ℕ} {S : List X} (n : ℕ) → All2 (Holds R) O S → (a : ℕ) → Refines (held_by M S a) (held_by M R (get_or O a n))
  look_refines R n nil2 a = tt
  look_refines R n (cons2 q t) zero = ap (or_absent M.absent) q
  look_refines R n (cons2 q t) (suc a) = look_refines R n t a

  module _ (k : ℕ) (O : List ℕ) (S R : List X) (n : ℕ) (r : All2 (Holds R) O S) where
    one : (a : ℕ) (f : X → Step X E) → Refines (and_then (held_by M S a) f) (and_then (held_by M R (get_or O a n)) f)
    one a f = refines_then (held_by M S a) (held_by M R (get_or O a n)) f f (look_refines R n r a) (λ x. refines_refl (f x))

    two : (a b : ℕ) (f : X → X → Step X E)
        → Refines (and_then (held_by M S a) (λ x. and_then (held_by M S b) (f x))) (and_then (held_by M R (get_or O a n)) (λ x. and_then (held_by M R (get_or O b n)) (f x)))
    two a b f = refines_then (held_by M S a) (held_by M R (get_or O a n)) (λ x. and_then (held_by M S b) (f x)) (λ x. and_then (held_by M R (get_or O b n)) (f x))
        (look_refines R n r a) (λ x. one b (f x))

    -- what is known of a line by its fate
    abbrev Known : Line → Fate → Type 0
    Known x kept = Refines (step (through M) k S x) (step M k R (renumbered O n x)) × (count_in (renumbered O n x) k ≡ count_in x k)
    Known x (made_from a) = (step (through M) k S x ≡ and_then (held_by M S a) goes) × (count_in x k ≡ k)

    known : (x : Line) → Known x (fate_of x)
    known In = (refines_refl (M.input k), refl)
    known (Const c) = (refines_refl (M.constant c), refl)
    known (Neg a) = (one a M.neg, refl)
    known (Rot a t) = (one a (λ x. M.rot x t), refl)
    known (Add a b) = (two a b M.add, refl)
    known (Mul a b) = (two a b M.mul, refl)
    known (Out a) = (one a M.out, refl)
    known (Enc a s e) = (refl, refl)
    known (Rs a c) = (refl, refl)
    known (Ms a c) = (refl, refl)
    known (Us a b) = (refl, refl)
    known Free = (tt, refl)

  -- the circuit's run, and where each line of the schedule comes from
  pub record Erased (c : Run X E) (O : List ℕ) (S : List X) : Type 0 where
    pub held : List X
    pub runs : c ≡ finished held
    pub from_circuit : All2 (Holds held) O S

  abbrev Into : Run X E → Run X E → List ℕ → Type 0
  Into (stopped i e) c O = Unit {0}
  Into (finished S) c O = Erased c O S

  more : (O : List ℕ) (S R : List X) (v : X) → All2 (Holds R) O S → All2 (Holds (R ++ (v ∷ []))) O S
  more O S R v r = map2 (λ o x h. found_after R (v ∷ []) o h) r

  -- a struck line holds what its held_by holds
  struck_holds : (R : List X) {O : List ℕ} {S : List X} (n a : ℕ) (v : X) → All2 (Holds R) O S → and_then (held_by M S a) goes ≡ goes v → get_elem? R (get_or O a n) ≡ some v
  struck_holds R n a v nil2 e = stops_goes e
  struck_holds R n zero v (cons2 q t) e = q ∙ ap some (goes_is e)
  struck_holds R n (suc a) v (cons2 q t) e = struck_holds R n a v t e

  pub erase_run : (xs : List Line) (k : ℕ) (O : List ℕ) (n : ℕ) (R S : List X) → n ≡ length R → All2 (Holds R) O S
      → Into (run_from (through M) k S xs) (run_from M k R (erase_from O n xs)) (origins_from O n xs)
  erase_run [] k O n R S e r = record { held = R; runs = refl; from_circuit = r }
  erase_run (x ∷ xs) k O n R S e r = go (fate_of x) (known k O S R n r x) (step (through M) k S x) refl
      (λ v r'. erase_run xs (count_in x k) (O ++ (n ∷ [])) (suc n) (R ++ (v ∷ [])) (S ++ (v ∷ [])) (ap suc e ∙ sym (length_snoc R v)) r')
      (λ o v r'. erase_run xs (count_in x k) (O ++ (o ∷ [])) n R (S ++ (v ∷ [])) e r')
    where
      f : ℕ → ℕ
      f a = get_or O a n

      -- the circuit's side, as its step comes out
      onward : Step X E → Run X E
      onward t = elim t [ goes v ↦ run_from M (count_in (renumbered O n x) k) (R ++ (v ∷ [])) (erase_from (O ++ (n ∷ [])) (suc n) xs) | stops d ↦ stopped (length R) d ]

      circuit : Fate → Run X E
      circuit w = run_from M k R (elim w [ kept ↦ renumbered O n x ∷ erase_from (O ++ (n ∷ [])) (suc n) xs | made_from a ↦ erase_from (O ++ (f a ∷ [])) n xs ])

      places : Fate → List ℕ
      places w = elim w [ kept ↦ origins_from (O ++ (n ∷ [])) (suc n) xs | made_from a ↦ origins_from (O ++ (f a ∷ [])) n xs ]

      go : (w : Fate) → Known k O S R n r x w → (s : Step X E) → step (through M) k S x ≡ s
          → ((v : X) → All2 (Holds (R ++ (v ∷ []))) (O ++ (n ∷ [])) (S ++ (v ∷ []))
          → Into (run_from (through M) (count_in x k) (S ++ (v ∷ [])) xs) (run_from M (count_in x k) (R ++ (v ∷ [])) (erase_from (O ++ (n ∷ [])) (suc n) xs))
          (origins_from (O ++ (n ∷ [])) (suc n) xs))
          → ((o : ℕ) (v : X) → All2 (Holds R) (O ++ (o ∷ [])) (S ++ (v ∷ []))
          → Into (run_from (through M) (count_in x k) (S ++ (v ∷ [])) xs) (run_from M (count_in x k) R (erase_from (O ++ (o ∷ [])) n xs)) (origins_from (O ++ (o ∷ [])) n xs))
          → Into (elim s [ goes v ↦ run_from (through M) (count_in x k) (S ++ (v ∷ [])) xs | stops d ↦ stopped (length S) d ]) (circuit w) (places w)
      go w c (stops d) q g g' = tt
      go kept c (goes v) q g g' =
          subst (λ (t : Run X E). Into (run_from (through M) (count_in x k) (S ++ (v ∷ [])) xs) t (origins_from (O ++ (n ∷ [])) (suc n) xs))
          (sym (ap onward (subst (λ (s : Step X E). Refines s (step M k R (renumbered O n x))) q c.0)
          ∙ ap (λ (j : ℕ). run_from M j (R ++ (v ∷ [])) (erase_from (O ++ (n ∷ [])) (suc n) xs)) c.1))
          (g v (snoc2 (more O S R v r) (ap (get_elem? (R ++ (v ∷ []))) e ∙ found_last R v)))
      go (made_from a) c (goes v) q g g' =
          subst (λ (j : ℕ). Into (run_from (through M) (count_in x k) (S ++ (v ∷ [])) xs) (run_from M j R (erase_from (O ++ (f a ∷ [])) n xs)) (origins_from (O ++ (f a ∷ [])) n xs))
          c.1
          (g' (f a) v (snoc2 r (struck_holds R n a v r (sym c.0 ∙ q))))

  -- a schedule through which the machine runs to the end
  pub erased : (s : List Line) {S : List X} → run (through M) s ≡ finished S → Erased (run M (erase s)) (origins s) S
  erased s {S} e = subst (λ (t : Run X E). Into t (run M (erase s)) (origins s)) e (erase_run s 0 [] 0 [] [] refl nil2)
