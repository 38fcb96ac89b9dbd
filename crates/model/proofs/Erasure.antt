-- A well-formed schedule erases to a well-formed circuit, whose lines are the kept ones with their operands counted anew. Assumes nothing.
use Prim.Native.Nat.{ℕ, zero, suc, ◌<◌}
use native.Mathlib.Omega.{arith}
use mathlib.Core.Path.{◌≡◌, refl, sym, ap, ap₂, ◌∙◌, subst, subst₃}
use mathlib.Core.Bool.{true, ◌&&◌}
use mathlib.Core.List.{List, [], ◌∷◌, ◌++◌, map, append-nil}
use mathlib.Core.Option.{some}
use lib.Dec.{T}
use lib.ListN.{length, get_or, get_elem?, get_or-eq_default}
use lib.Seq.{append_snoc}
use Rattle.model.specs.declared.Header.{Header}
use Rattle.model.specs.declared.Line.{Line}
use Rattle.model.specs.declared.Line.TheVariants.{In, Const, Neg, Rot, Add, Mul, Out, Enc, Rs, Ms, Us, Free}
use Rattle.model.specs.declared.Grammar.TheVariants.{Circuit, Schedule}
use Rattle.model.specs.declared.Kind.{Kind}
use Rattle.model.specs.declared.Kind.TheVariants.{Ciphertext, Constant, Encoded, Nothing}
use Rattle.model.specs.Scales.{header_in_range}
use Rattle.model.specs.Files.{operands, kind_of, kind_at, is_ciphertext, is_usable, every_usable, is_pair, line_formed, lines_formed}
use Rattle.model.specs.Services.{Fate, kept, made_from, fate_of, renamed, erase, kept_lines}
use Rattle.model.proofs.Statements.Erasing.{origins}
use Rattle.model.proofs.Tests.{and_first, and_second, and_both, is_ciphertext_lem, is_constant_lem}
use Rattle.model.proofs.Lists.{length_snoc, found_after, found_last, found_at, found_is, All, nil, cons, all_snoc, all_map, all_found, All2, nil2, cons2, snoc2, map2, length2, beside}
use Rattle.model.proofs.Formed.{LineFacts, line_facts, line_passes, usable_below, well_header, well_lines}
use Rattle.model.proofs.Appended.{erase_kept, origins_kept, lines_kept, erase_struck, origins_struck, lines_struck, formed_snoc}
use Rattle.model.proofs.KeptLines.{kept_line}
use Rattle.model.proofs.Statements.Erasing as Statement

-- ---- kinds
-- the kind, in the circuit, of what a value of that kind comes from
abbrev erased_kind : Kind → Kind
erased_kind Ciphertext = Ciphertext
erased_kind Constant = Constant
erased_kind Encoded = Constant
erased_kind Nothing = Nothing

usable_erased : (k : Kind) → T (is_usable k) → T (is_usable (erased_kind k))
usable_erased Ciphertext t = tt
usable_erased Constant t = tt
usable_erased Encoded t = tt
usable_erased Nothing t = t

ciphertext_erased : (k : Kind) → T (is_ciphertext k) → T (is_ciphertext (erased_kind k))
ciphertext_erased Ciphertext t = tt
ciphertext_erased Constant t = t
ciphertext_erased Encoded t = t
ciphertext_erased Nothing t = t

-- an encoded constant beside a ciphertext becomes a constant beside it
pair_erased : (j k : Kind) → T (is_pair Schedule j k) → T (is_pair Circuit (erased_kind j) (erased_kind k))
pair_erased Ciphertext Ciphertext t = tt
pair_erased Ciphertext Constant t = tt
pair_erased Ciphertext Encoded t = tt
pair_erased Ciphertext Nothing t = t
pair_erased Constant k t = absurd t
pair_erased Encoded k t = ciphertext_erased k t
pair_erased Nothing k t = absurd t

-- ---- operands
-- a line depends on the new names of its operands alone
renamed_same : (f g : ℕ → ℕ) (x : Line) → All (λ a. f a ≡ g a) (operands x) → renamed f x ≡ renamed g x
renamed_same f g In p = refl
renamed_same f g (Const k) p = refl
renamed_same f g (Neg a) (cons p nil) = ap Neg p
renamed_same f g (Rot a t) (cons p nil) = ap (λ (b : ℕ). Rot b t) p
renamed_same f g (Add a b) (cons p (cons q nil)) = ap₂ Add p q
renamed_same f g (Mul a b) (cons p (cons q nil)) = ap₂ Mul p q
renamed_same f g (Out a) (cons p nil) = ap Out p
renamed_same f g (Enc a s e) (cons p nil) = ap (λ (b : ℕ). Enc b s e) p
renamed_same f g (Rs a c) (cons p nil) = ap (λ (b : ℕ). Rs b c) p
renamed_same f g (Ms a c) (cons p nil) = ap (λ (b : ℕ). Ms b c) p
renamed_same f g (Us a c) (cons p nil) = ap (λ (b : ℕ). Us b c) p
renamed_same f g Free p = refl

-- the operands of a well-formed line are earlier lines
operands_below : (before : List Line) (named : List ℕ) → T (every_usable before named) → All (λ a. a < length before) named
operands_below before [] t = nil
operands_below before (a ∷ named) t =
    cons (usable_below before a (and_first (is_usable (kind_at before a)) (every_usable before named) t))
    (operands_below before named (and_second (is_usable (kind_at before a)) (every_usable before named) t))

-- ---- one line more, where f gives for each value the circuit line that it comes from
-- a line that stays is well formed in the circuit, and has its kind there
record Stays (h : Header) (circuit : List Line) (f : ℕ → ℕ) (x : Line) : Type 0 where
  formed : LineFacts Circuit h circuit (renamed f x)
  kind : kind_of (renamed f x) ≡ erased_kind (kind_of x)

-- a line that is struck is made from an earlier line, which has its kind in the circuit
record Struck (lines circuit : List Line) (f : ℕ → ℕ) (x : Line) (a : ℕ) : Type 0 where
  below : a < length lines
  there : f a < length circuit
  kind : kind_at circuit (f a) ≡ erased_kind (kind_of x)

abbrev Erasable : Header → List Line → List Line → (ℕ → ℕ) → Line → Fate → Type 0
Erasable h lines circuit f x kept = Stays h circuit f x
Erasable h lines circuit f x (made_from a) = Struck lines circuit f x a

module _ (h : Header) (lines circuit : List Line) (f : ℕ → ℕ) (same : (a : ℕ) → kind_at circuit (f a) ≡ erased_kind (kind_at lines a)) where
  usable : (named : List ℕ) → T (every_usable lines named) → T (every_usable circuit (map f named))
  usable [] t = tt
  usable (a ∷ named) t =
      and_both (is_usable (kind_at circuit (f a))) (every_usable circuit (map f named))
      (rw (same a) (usable_erased (kind_at lines a) (and_first (is_usable (kind_at lines a)) (every_usable lines named) t)))
      (usable named (and_second (is_usable (kind_at lines a)) (every_usable lines named) t))

  ciphertext : (a : ℕ) → T (is_ciphertext (kind_at lines a)) → T (is_ciphertext (kind_at circuit (f a)))
  ciphertext a t = rw (same a) (ciphertext_erased (kind_at lines a) t)

  pair : (a b : ℕ) → T (is_pair Schedule (kind_at lines a) (kind_at lines b)) → T (is_pair Circuit (kind_at circuit (f a)) (kind_at circuit (f b)))
  pair a b t = rw (same a, same b) (pair_erased (kind_at lines a) (kind_at lines b) t)

  struck : (x : Line) (a : ℕ) (k : Kind) → T (is_usable (kind_at lines a) && true) → kind_at lines a ≡ k → erased_kind k ≡ erased_kind (kind_of x) → Struck lines circuit f x a
  struck x a k u e s =
      record {
        below = usable_below lines a (and_first (is_usable (kind_at lines a)) true u);
        there = usable_below circuit (f a) (and_first (is_usable (kind_at circuit (f a))) true (usable (a ∷ []) u));
        kind = same a ∙ ap erased_kind e ∙ s;
      }

  erasable : (x : Line) → LineFacts Schedule h lines x → Erasable h lines circuit f x (fate_of x)
  erasable In l = record { formed = record { word = tt; range = tt; usable = tt; kinds = tt }; kind = refl }
  erasable (Const k) l = record { formed = record { word = tt; range = l.range; usable = tt; kinds = tt }; kind = refl }
  erasable (Neg a) l = record { formed = record { word = tt; range = tt; usable = usable (a ∷ []) l.usable; kinds = ciphertext a l.kinds }; kind = refl }
  erasable (Rot a t) l = record { formed = record { word = tt; range = l.range; usable = usable (a ∷ []) l.usable; kinds = ciphertext a l.kinds }; kind = refl }
  erasable (Add a b) l = record { formed = record { word = tt; range = tt; usable = usable (a ∷ b ∷ []) l.usable; kinds = pair a b l.kinds }; kind = refl }
  erasable (Mul a b) l = record { formed = record { word = tt; range = tt; usable = usable (a ∷ b ∷ []) l.usable; kinds = pair a b l.kinds }; kind = refl }
  erasable (Out a) l = record { formed = record { word = tt; range = tt; usable = usable (a ∷ []) l.usable; kinds = ciphertext a l.kinds }; kind = refl }
  erasable (Enc a s e) l = struck (Enc a s e) a Constant l.usable (is_constant_lem (kind_at lines a) l.kinds) refl
  erasable (Rs a c) l = struck (Rs a c) a Ciphertext l.usable (is_ciphertext_lem (kind_at lines a) l.kinds) refl
  erasable (Ms a c) l = struck (Ms a c) a Ciphertext l.usable (is_ciphertext_lem (kind_at lines a) l.kinds) refl
  erasable (Us a b) l = struck (Us a b) a Ciphertext l.usable (is_ciphertext_lem (kind_at lines a) l.kinds) refl
  erasable Free l = absurd l.word

-- ---- the lines so far
-- a line stays or is struck, and is made from one line
stays_or_struck : {P : Type 0} {w : Fate} {a : ℕ} → w ≡ kept → w ≡ made_from a → P
stays_or_struck e d = absurd (let z : ◌≡◌ {A = ℕ} 0 1 = cc in omega arith)

made_from_one : {w : Fate} {a b : ℕ} → w ≡ made_from a → w ≡ made_from b → a ≡ b
made_from_one d e = cc

-- line x of a schedule with these origins comes from line o of the circuit
record Comes (circuit : List Line) (from : List ℕ) (o : ℕ) (x : Line) : Type 0 where
  line : Line
  there : get_elem? circuit o ≡ some line
  kind : kind_of line ≡ erased_kind (kind_of x)
  earlier : All (λ a. a < length from) (operands x)
  stays : fate_of x ≡ kept → line ≡ renamed (λ a. get_or from a 0) x
  made_from_lem : (a : ℕ) → fate_of x ≡ made_from a → get_elem? from a ≡ some o

-- line i of a schedule is kept
record IsKept (lines : List Line) (i : ℕ) : Type 0 where
  line : Line
  there : get_elem? lines i ≡ some line
  stays : fate_of line ≡ kept

-- what the lines of a schedule erase to, with their origins and the numbers of the kept ones
record Erased (h : Header) (lines circuit : List Line) (from numbers : List ℕ) : Type 0 where
  formed : T (lines_formed Circuit h [] circuit)
  comes : All2 (Comes circuit from) from lines
  kept_are : All (IsKept lines) numbers
  counted : length numbers ≡ length circuit

-- a new origin leaves the operands' origins
renamed_later : (from : List ℕ) (p n : ℕ) (x : Line) → All (λ a. a < length from) (operands x) → renamed (λ a. get_or from a n) x ≡ renamed (λ a. get_or (from ++ (p ∷ [])) a 0) x
renamed_later from p n x e =
    renamed_same (λ a. get_or from a n) (λ a. get_or (from ++ (p ∷ [])) a 0) x
    (all_map (λ a b. sym (found_is (from ++ (p ∷ [])) a 0 (found_after from (p ∷ []) a (found_at from a n b)))) e)

earlier_later : (from : List ℕ) (p : ℕ) (x : Line) → All (λ a. a < length from) (operands x) → All (λ a. a < length (from ++ (p ∷ []))) (operands x)
earlier_later from p x e = all_map (λ a b. let l = length_snoc from p in omega arith) e

module _ (circuit : List Line) (from : List ℕ) where
  -- the kinds of what lines come from; past the lines there is nothing
  origin_kind : {part : List ℕ} {lines : List Line} → All2 (Comes circuit from) part lines → (a : ℕ) → kind_at circuit (get_or part a (length circuit)) ≡ erased_kind (kind_at lines a)
  origin_kind nil2 a = ap kind_of (get_or-eq_default circuit Free (omega arith))
  origin_kind (cons2 {x = o} c t) zero = ap kind_of (found_is circuit o Free c.there) ∙ c.kind
  origin_kind (cons2 c t) (suc a) = origin_kind t a

  -- a line, as one more is added
  comes_later : (circuit' : List Line) (p : ℕ) → ((o : ℕ) (y : Line) → get_elem? circuit o ≡ some y → get_elem? circuit' o ≡ some y) → (o : ℕ) (x : Line) → Comes circuit from o x
      → Comes circuit' (from ++ (p ∷ [])) o x
  comes_later circuit' p grows o x c =
      record {
        line = c.line;
        there = grows o c.line c.there;
        kind = c.kind;
        earlier = earlier_later from p x c.earlier;
        stays = λ e. c.stays e ∙ renamed_later from p 0 x c.earlier;
        made_from_lem = λ a e. found_after from (p ∷ []) a (c.made_from_lem a e);
      }

kept_later : (lines : List Line) (x : Line) (i : ℕ) → IsKept lines i → IsKept (lines ++ (x ∷ [])) i
kept_later lines x i k = record { line = k.line; there = found_after lines (x ∷ []) i k.there; stays = k.stays }

module _ (h : Header) (lines circuit : List Line) (from numbers : List ℕ) (so_far : Erased h lines circuit from numbers) (x : Line) (l : LineFacts Schedule h lines x) where
  abbrev origin : ℕ → ℕ
  origin a = get_or from a (length circuit)

  earlier : All (λ a. a < length from) (operands x)
  earlier = let long = length2 so_far.comes in all_map (λ a b. omega arith) (operands_below lines (operands x) l.usable)

  one_kept : fate_of x ≡ kept → Stays h circuit origin x
      → Erased h (lines ++ (x ∷ [])) (circuit ++ (renamed origin x ∷ [])) (from ++ (length circuit ∷ [])) (numbers ++ (length lines ∷ []))
  one_kept e s =
      record {
        formed = formed_snoc Circuit h circuit (renamed origin x) so_far.formed (line_passes Circuit h circuit (renamed origin x) s.formed);
        comes =
            snoc2 (map2 (comes_later circuit from (circuit ++ (renamed origin x ∷ [])) (length circuit) (λ o y p. found_after circuit (renamed origin x ∷ []) o p)) so_far.comes)
            (record {
              line = renamed origin x;
              there = found_last circuit (renamed origin x);
              kind = s.kind;
              earlier = earlier_later from (length circuit) x earlier;
              stays = λ d. renamed_later from (length circuit) (length circuit) x earlier;
              made_from_lem = λ a d. stays_or_struck e d;
            });
        kept_are = all_snoc (all_map (kept_later lines x) so_far.kept_are) (record { line = x; there = found_last lines x; stays = e });
        counted = length_snoc numbers (length lines) ∙ ap suc so_far.counted ∙ sym (length_snoc circuit (renamed origin x));
      }

  one_struck : (a : ℕ) → fate_of x ≡ made_from a → Struck lines circuit origin x a → Erased h (lines ++ (x ∷ [])) circuit (from ++ (origin a ∷ [])) numbers
  one_struck a e s =
      let long = length2 so_far.comes in
      let operand_origin = found_after from (origin a ∷ []) a (found_at from a (length circuit) (omega (arith, s.below))) in
      record {
        formed = so_far.formed;
        comes =
            snoc2 (map2 (comes_later circuit from circuit (origin a) (λ o y p. p)) so_far.comes)
            (record {
              line = get_or circuit (origin a) Free;
              there = found_at circuit (origin a) Free s.there;
              kind = s.kind;
              earlier = earlier_later from (origin a) x earlier;
              stays = λ d. stays_or_struck d e;
              made_from_lem = λ b d. ap (get_elem? (from ++ (origin a ∷ []))) (made_from_one d e) ∙ operand_origin;
            });
        kept_are = all_map (kept_later lines x) so_far.kept_are;
        counted = so_far.counted;
      }

-- ---- all lines
abbrev Whole : Header → List Line → Type 0
Whole h lines = Erased h lines (erase lines) (origins lines) (kept_lines lines)

one_more_lem : (h : Header) (lines : List Line) (x : Line) → Whole h lines → LineFacts Schedule h lines x → Whole h (lines ++ (x ∷ []))
one_more_lem h lines x so_far l = go (fate_of x) refl (erasable h lines (erase lines) origin (origin_kind (erase lines) (origins lines) so_far.comes) x l)
  where
    origin : ℕ → ℕ
    origin a = get_or (origins lines) a (length (erase lines))

    go : (w : Fate) → fate_of x ≡ w → Erasable h lines (erase lines) origin x w → Whole h (lines ++ (x ∷ []))
    go kept e s =
        subst₃ (Erased h (lines ++ (x ∷ []))) (sym (erase_kept lines x e)) (sym (origins_kept lines x e)) (sym (lines_kept lines x e))
        (one_kept h lines (erase lines) (origins lines) (kept_lines lines) so_far x l e s)
    go (made_from a) e s =
        subst₃ (Erased h (lines ++ (x ∷ []))) (sym (erase_struck lines x a e)) (sym (origins_struck lines x a e)) (sym (lines_struck lines x a e))
        (one_struck h lines (erase lines) (origins lines) (kept_lines lines) so_far x l a e s)

all_lines : (h : Header) (xs before : List Line) → T (lines_formed Schedule h before xs) → Whole h before → Whole h (before ++ xs)
all_lines h [] before t so_far = subst (Whole h) (sym (append-nil before)) so_far
all_lines h (x ∷ xs) before t so_far =
    subst (Whole h) (append_snoc before x xs)
    (all_lines h xs (before ++ (x ∷ [])) (and_second (line_formed Schedule h before x) (lines_formed Schedule h (before ++ (x ∷ [])) xs) t)
    (one_more_lem h before x so_far (line_facts Schedule h before x (and_first (line_formed Schedule h before x) (lines_formed Schedule h (before ++ (x ∷ [])) xs) t))))

whole : (h : Header) (schedule : List Line) → T (lines_formed Schedule h [] schedule) → Whole h schedule
whole h schedule t = all_lines h schedule [] t (record { formed = tt; comes = nil2; kept_are = nil; counted = refl })

-- ---- the theorem
pub erasure : Statement.Statement
erasure h schedule t =
    record {
      formed = and_both (header_in_range h) (lines_formed Circuit h [] (erase schedule)) (well_header Schedule h schedule t) all.formed;
      lines = line;
      made_from_lem = λ i a b e. let o = found_at (origins schedule) i 0 (omega (arith, traced)) in o ∙ sym ((comes i o).made_from_lem a e);
      all_kept = record { kept_are = all.counted; traced = traced };
    }
  where
    all : Whole h schedule
    all = whole h schedule (well_lines Schedule h schedule t)

    traced : length (origins schedule) ≡ length schedule
    traced = length2 all.comes

    comes : (i : ℕ) {o : ℕ} → get_elem? (origins schedule) i ≡ some o → Comes (erase schedule) (origins schedule) o (get_or schedule i Free)
    comes i e = let c = beside all.comes i e in rw (found_is schedule i Free c.there) c.related

    line : (j : ℕ) → j < length (erase schedule) → Statement.IsKeptLine schedule j
    line j b =
        let k = kept_line schedule j b in
        let i : ℕ = get_or (kept_lines schedule) j 0 in
        let s = all_found all.kept_are j k.there in
        let stays : fate_of (get_or schedule i Free) ≡ kept = ap fate_of (found_is schedule i Free s.there) ∙ s.stays in
        let c = comes i k.origin in
        record { line = i; there = k.there; below = k.below; stays = stays; origin = k.origin; written = c.there ∙ ap some (c.stays stays) }
