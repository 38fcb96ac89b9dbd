-- Machines in step: where a relation between values is kept at each word, it is kept at every line of every file. As long as the first
-- machine goes on, the other two do. Assumes nothing.
use Prim.Native.Nat.{ℕ, zero, suc}
use mathlib.Core.Path.{◌≡◌, refl, subst}
use mathlib.Core.List.{List, [], ◌∷◌, ◌++◌}
use lib.ListN.{length, get_elem?}
use lib.IntN.{ℤ}
use Rattle.model.specs.declared.Line.{Line}
use Rattle.model.specs.declared.Line.TheVariants.{In, Const, Neg, Rot, Add, Mul, Out, Enc, Rs, Ms, Us, Free}
use Rattle.model.specs.Machine.{Step, goes, stops, Run, finished, stopped, Machine, and_then, held_by, step, count_in, run_from}
use Rattle.model.proofs.Runs.{or_absent}
use Rattle.model.proofs.Lists.{All3, nil3, cons3, snoc3}

module _ {X Y Z E D G : Type 0} where
  abbrev pub Follows : (X → Y → Z → Type 0) → Step X E → Step Y D → Step Z G → Type 0
  Follows R (stops e) t u = Unit {0}
  Follows R (goes x) (stops d) u = ⊥
  Follows R (goes x) (goes y) (stops g) = ⊥
  Follows R (goes x) (goes y) (goes z) = R x y z

  abbrev pub RunFollows : (X → Y → Z → Type 0) → Run X E → Run Y D → Run Z G → Type 0
  RunFollows R (stopped i e) t u = Unit {0}
  RunFollows R (finished xs) (stopped i d) u = ⊥
  RunFollows R (finished xs) (finished ys) (stopped i g) = ⊥
  RunFollows R (finished xs) (finished ys) (finished zs) = All3 R xs ys zs

  follow_then : (R S : X → Y → Z → Type 0) (s : Step X E) (t : Step Y D) (u : Step Z G) (f : X → Step X E) (g : Y → Step Y D) (k : Z → Step Z G)
      → Follows R s t u → ((x : X) (y : Y) (z : Z) → R x y z → Follows S (f x) (g y) (k z)) → Follows S (and_then s f) (and_then t g) (and_then u k)
  follow_then R S (stops e) t u f g k h n = tt
  follow_then R S (goes x) (stops d) u f g k h n = absurd h
  follow_then R S (goes x) (goes y) (stops e) f g k h n = absurd h
  follow_then R S (goes x) (goes y) (goes z) f g k h n = n x y z h

  look_follows : {R : X → Y → Z → Type 0} {f : List X} {g : List Y} {h : List Z} (e : E) (d : D) (c : G) → All3 R f g h → (a : ℕ)
      → Follows R (or_absent e (get_elem? f a)) (or_absent d (get_elem? g a)) (or_absent c (get_elem? h a))
  look_follows e d c nil3 a = tt
  look_follows e d c (cons3 q t) zero = q
  look_follows e d c (cons3 q t) (suc a) = look_follows e d c t a

module _ {X Y Z E D G : Type 0} (A : Machine X E) (B : Machine Y D) (C : Machine Z G) (R : X → Y → Z → Type 0) where
  -- the relation is kept at each word
  pub record Kept : Type 0 where
    pub input : (k : ℕ) → Follows R (A.input k) (B.input k) (C.input k)
    pub constant : (k : ℕ) → Follows R (A.constant k) (B.constant k) (C.constant k)
    pub neg : (x : X) (y : Y) (z : Z) → R x y z → Follows R (A.neg x) (B.neg y) (C.neg z)
    pub rot : (t : ℤ) (x : X) (y : Y) (z : Z) → R x y z → Follows R (A.rot x t) (B.rot y t) (C.rot z t)
    pub add : (x : X) (y : Y) (z : Z) → R x y z → (x' : X) (y' : Y) (z' : Z) → R x' y' z' → Follows R (A.add x x') (B.add y y') (C.add z z')
    pub mul : (x : X) (y : Y) (z : Z) → R x y z → (x' : X) (y' : Y) (z' : Z) → R x' y' z' → Follows R (A.mul x x') (B.mul y y') (C.mul z z')
    pub out : (x : X) (y : Y) (z : Z) → R x y z → Follows R (A.out x) (B.out y) (C.out z)
    pub enc : (s e : ℕ) (x : X) (y : Y) (z : Z) → R x y z → Follows R (A.enc x s e) (B.enc y s e) (C.enc z s e)
    pub rs : (c : ℕ) (x : X) (y : Y) (z : Z) → R x y z → Follows R (A.rs x c) (B.rs y c) (C.rs z c)
    pub ms : (c : ℕ) (x : X) (y : Y) (z : Z) → R x y z → Follows R (A.ms x c) (B.ms y c) (C.ms z c)
    pub us : (b : ℕ) (x : X) (y : Y) (z : Z) → R x y z → Follows R (A.us x b) (B.us y b) (C.us z b)

  module _ (K : Kept) where
    module _ {f : List X} {g : List Y} {h : List Z} (r : All3 R f g h) where
      one : (a : ℕ) (p : X → Step X E) (q : Y → Step Y D) (s : Z → Step Z G) → ((x : X) (y : Y) (z : Z) → R x y z → Follows R (p x) (q y) (s z))
          → Follows R (and_then (held_by A f a) p) (and_then (held_by B g a) q) (and_then (held_by C h a) s)
      one a p q s n = follow_then R R (held_by A f a) (held_by B g a) (held_by C h a) p q s (look_follows A.absent B.absent C.absent r a) n

      step_kept : (l : Line) (k : ℕ) → Follows R (step A k f l) (step B k g l) (step C k h l)
      step_kept In k = K.input k
      step_kept (Const c) k = K.constant c
      step_kept (Neg a) k = one a A.neg B.neg C.neg K.neg
      step_kept (Rot a t) k = one a (λ x. A.rot x t) (λ y. B.rot y t) (λ z. C.rot z t) (K.rot t)
      step_kept (Add a b) k = one a _ _ _ (λ x y z p. one b (A.add x) (B.add y) (C.add z) (K.add x y z p))
      step_kept (Mul a b) k = one a _ _ _ (λ x y z p. one b (A.mul x) (B.mul y) (C.mul z) (K.mul x y z p))
      step_kept (Out a) k = one a A.out B.out C.out K.out
      step_kept (Enc a s e) k = one a (λ x. A.enc x s e) (λ y. B.enc y s e) (λ z. C.enc z s e) (K.enc s e)
      step_kept (Rs a c) k = one a (λ x. A.rs x c) (λ y. B.rs y c) (λ z. C.rs z c) (K.rs c)
      step_kept (Ms a c) k = one a (λ x. A.ms x c) (λ y. B.ms y c) (λ z. C.ms z c) (K.ms c)
      step_kept (Us a b) k = one a (λ x. A.us x b) (λ y. B.us y b) (λ z. C.us z b) (K.us b)
      step_kept Free k = tt

    pub run_kept : (xs : List Line) (k : ℕ) {f : List X} {g : List Y} {h : List Z} → All3 R f g h → RunFollows R (run_from A k f xs) (run_from B k g xs) (run_from C k h xs)
    run_kept [] k r = r
    run_kept (x ∷ xs) k {f} {g} {h} r = go (step A k f x) (step B k g x) (step C k h x) (step_kept r x k) (λ v w y q. run_kept xs (count_in x k) (snoc3 r q))
      where
        go : (s : Step X E) (t : Step Y D) (u : Step Z G) → Follows R s t u
            → ((v : X) (w : Y) (y : Z) → R v w y
            → RunFollows R (run_from A (count_in x k) (f ++ (v ∷ [])) xs) (run_from B (count_in x k) (g ++ (w ∷ [])) xs) (run_from C (count_in x k) (h ++ (y ∷ [])) xs))
            → RunFollows {E = E} {D = D} {G = G} R
            (elim s [ goes v ↦ run_from A (count_in x k) (f ++ (v ∷ [])) xs | stops e ↦ stopped (length f) e ])
            (elim t [ goes v ↦ run_from B (count_in x k) (g ++ (v ∷ [])) xs | stops e ↦ stopped (length g) e ])
            (elim u [ goes v ↦ run_from C (count_in x k) (h ++ (v ∷ [])) xs | stops e ↦ stopped (length h) e ])
        go (stops e) t u p n = tt
        go (goes a) (stops d) u p n = absurd p
        go (goes a) (goes b) (stops e) p n = absurd p
        go (goes a) (goes b) (goes c) p n = n a b c p

-- what follows a run that finished
module _ {X Y Z D G : Type 0} (R : X → Y → Z → Type 0) where
  pub record Finished (xs : List X) (t : Run Y D) (u : Run Z G) : Type 0 where
    pub second : List Y
    pub third : List Z
    pub second_is : t ≡ finished second
    pub third_is : u ≡ finished third
    pub related : All3 R xs second third

  pub finish : {E : Type 0} {xs : List X} (s : Run X E) (t : Run Y D) (u : Run Z G) → s ≡ finished xs → RunFollows R s t u → Finished xs t u
  finish {E} {xs} s t u e r = go t u (subst (λ (q : Run X E). RunFollows R q t u) e r)
    where
      go : (t : Run Y D) (u : Run Z G) → RunFollows {E = E} R (finished xs) t u → Finished xs t u
      go (stopped i d) u q = absurd q
      go (finished ys) (stopped i d) q = absurd q
      go (finished ys) (finished zs) q = record { second = ys; third = zs; second_is = refl; third_is = refl; related = q }

-- the machine that holds nothing and never stops but where an held_by is missing
abbrev pub idle : Machine (Unit {0}) (Unit {0})
idle =
    record {
      absent = tt;
      input = λ k. goes tt;
      constant = λ k. goes tt;
      neg = λ x. goes tt;
      rot = λ x t. goes tt;
      add = λ x y. goes tt;
      mul = λ x y. goes tt;
      out = λ x. goes tt;
      enc = λ x s e. goes tt;
      rs = λ x c. goes tt;
      ms = λ x c. goes tt;
      us = λ x b. goes tt;
    }
