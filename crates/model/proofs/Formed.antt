-- What a well-formed file gives at each of its lines, and what a machine does on it: its operands are there and are of the kinds that the
-- word takes. Assumes nothing.
use Prim.Native.Nat.{ℕ, zero, suc, ◌<◌}
use native.Mathlib.Omega.{arith}
use mathlib.Core.Path.{◌≡◌, refl, sym, ap, ◌∙◌, subst}
use mathlib.Core.Bool.{true, ◌&&◌}
use mathlib.Core.List.{List, [], ◌∷◌, ◌++◌, append-nil}
use mathlib.Core.Option.{some}
use lib.Dec.{T}
use lib.ListN.{length, get_or, get_elem?, take, drop, length-append}
use lib.Seq.{append_snoc, split_at, get_or-append_seam}
use Rattle.model.specs.declared.Header.{Header}
use Rattle.model.specs.declared.Line.{Line}
use Rattle.model.specs.declared.Line.TheVariants.{In, Const, Neg, Rot, Add, Mul, Out, Enc, Rs, Ms, Us, Free}
use Rattle.model.specs.declared.Grammar.{Grammar}
use Rattle.model.specs.declared.Kind.{Kind}
use Rattle.model.specs.declared.Kind.TheVariants.{Ciphertext, Constant}
use Rattle.model.specs.Scales.{header_in_range}
use Rattle.model.specs.Files.{is_word, in_range, operands, every_usable, kind_of, kind_at, is_usable, is_pair, kinds_fit, line_formed, lines_formed, well_formed}
use Rattle.model.specs.Machine.{Step, Machine, and_then, held_by, step, run}
use Rattle.model.proofs.Lists.{length_snoc, found_after, found_last}
use Rattle.model.proofs.Tests.{and_first, and_second, and_both, is_ciphertext_lem, is_constant_lem}
use Rattle.model.proofs.Outcomes.{snoc_cases, Outcome, RunOutcome, outcome_map, outcome_found, run_outcome}

-- ---- one line
pub record LineFacts (g : Grammar) (h : Header) (before : List Line) (x : Line) : Type 0 where
  pub word : T (is_word g x)
  pub range : T (in_range h x)
  pub usable : T (every_usable before (operands x))
  pub kinds : T (kinds_fit g before x)

pub line_facts : (g : Grammar) (h : Header) (before : List Line) (x : Line) → T (line_formed g h before x) → LineFacts g h before x
line_facts g h before x t =
    let two = and_second (is_word g x) (in_range h x && (every_usable before (operands x) && kinds_fit g before x)) t in
    let three = and_second (in_range h x) (every_usable before (operands x) && kinds_fit g before x) two in
    record {
      word = and_first (is_word g x) (in_range h x && (every_usable before (operands x) && kinds_fit g before x)) t;
      range = and_first (in_range h x) (every_usable before (operands x) && kinds_fit g before x) two;
      usable = and_first (every_usable before (operands x)) (kinds_fit g before x) three;
      kinds = and_second (every_usable before (operands x)) (kinds_fit g before x) three;
    }

pub line_passes : (g : Grammar) (h : Header) (before : List Line) (x : Line) → LineFacts g h before x → T (line_formed g h before x)
line_passes g h before x f =
    and_both (is_word g x) (in_range h x && (every_usable before (operands x) && kinds_fit g before x)) f.word
    (and_both (in_range h x) (every_usable before (operands x) && kinds_fit g before x) f.range
    (and_both (every_usable before (operands x)) (kinds_fit g before x) f.usable f.kinds))

-- a value that can be used is that of an earlier line
pub usable_below : (before : List Line) (a : ℕ) → T (is_usable (kind_at before a)) → a < length before
usable_below [] a t = absurd t
usable_below (x ∷ before) zero t = omega arith
usable_below (x ∷ before) (suc a) t = let p = usable_below before a t in omega arith

-- ---- the lines
pub well_header : (g : Grammar) (h : Header) (lines : List Line) → T (well_formed g h lines) → T (header_in_range h)
well_header g h lines t = and_first (header_in_range h) (lines_formed g h [] lines) t

pub well_lines : (g : Grammar) (h : Header) (lines : List Line) → T (well_formed g h lines) → T (lines_formed g h [] lines)
well_lines g h lines t = and_second (header_in_range h) (lines_formed g h [] lines) t

module _ (g : Grammar) (h : Header) where
  pub formed_at : (before middle : List Line) (x : Line) (rest : List Line) → T (lines_formed g h before (middle ++ (x ∷ rest))) → T (line_formed g h (before ++ middle) x)
  formed_at before [] x rest t =
      subst (λ (l : List Line). T (line_formed g h l x)) (sym (append-nil before)) (and_first (line_formed g h before x) (lines_formed g h (before ++ (x ∷ [])) rest) t)
  formed_at before (y ∷ middle) x rest t =
      subst (λ (l : List Line). T (line_formed g h l x)) (append_snoc before y middle)
      (formed_at (before ++ (y ∷ [])) middle x rest (and_second (line_formed g h before y) (lines_formed g h (before ++ (y ∷ [])) (middle ++ (x ∷ rest))) t))

  -- a line, by what stands before it and after it
  pub formed_line : (lines : List Line) → T (lines_formed g h [] lines) → (before : List Line) (x : Line) (rest : List Line) → before ++ (x ∷ rest) ≡ lines → LineFacts g h before x
  formed_line lines t before x rest e =
      line_facts g h before x (formed_at [] before x rest (subst (λ (l : List Line). T (lines_formed g h [] l)) (sym e) t))

  -- line i
  pub formed_index : (lines : List Line) → T (lines_formed g h [] lines) → (i : ℕ) → i < length lines → LineFacts g h (take i lines) (get_or lines i Free)
  formed_index lines t i b = formed_line lines t (take i lines) (get_or lines i Free) (drop (suc i) lines) (sym (split_at lines i Free b))

  pub formed_append : (before xs ys : List Line) → T (lines_formed g h before xs) → T (lines_formed g h (before ++ xs) ys) → T (lines_formed g h before (xs ++ ys))
  formed_append before [] ys t u = subst (λ (l : List Line). T (lines_formed g h l ys)) (append-nil before) u
  formed_append before (x ∷ xs) ys t u =
      and_both (line_formed g h before x) (lines_formed g h (before ++ (x ∷ [])) (xs ++ ys)) (and_first (line_formed g h before x) (lines_formed g h (before ++ (x ∷ [])) xs) t)
      (formed_append (before ++ (x ∷ [])) xs ys (and_second (line_formed g h before x) (lines_formed g h (before ++ (x ∷ [])) xs) t)
      (subst (λ (l : List Line). T (lines_formed g h l ys)) (sym (append_snoc before x xs)) u))

-- a line that stands after `before` has that number
-- the first lines of a well-formed file
formed_take : (g : Grammar) (h : Header) (xs before : List Line) (i : ℕ) → T (lines_formed g h before xs) → T (lines_formed g h before (take i xs))
formed_take g h [] before i t = nil_formed i
  where
    nil_formed : (i : ℕ) → T (lines_formed g h before (take i []))
    nil_formed zero = tt
    nil_formed (suc i) = tt
formed_take g h (x ∷ xs) before zero t = tt
formed_take g h (x ∷ xs) before (suc i) t =
    and_both (line_formed g h before x) (lines_formed g h (before ++ (x ∷ [])) (take i xs)) (and_first (line_formed g h before x) (lines_formed g h (before ++ (x ∷ [])) xs) t)
    (formed_take g h xs (before ++ (x ∷ [])) i (and_second (line_formed g h before x) (lines_formed g h (before ++ (x ∷ [])) xs) t))

pub well_take : (g : Grammar) (h : Header) (lines : List Line) (i : ℕ) → T (well_formed g h lines) → T (well_formed g h (take i lines))
well_take g h lines i t = and_both (header_in_range h) (lines_formed g h [] (take i lines)) (well_header g h lines t) (formed_take g h lines [] i (well_lines g h lines t))

pub record Placed (lines : List Line) (i : ℕ) (x : Line) : Type 0 where
  pub below : i < length lines
  pub is : get_or lines i Free ≡ x

pub line_place : (before : List Line) (x : Line) (rest : List Line) {lines : List Line} → before ++ (x ∷ rest) ≡ lines → Placed lines (length before) x
line_place before x rest e =
    subst (λ (l : List Line). Placed l (length before) x) e
    (record { below = omega (arith, length-append before (x ∷ rest)); is = get_or-append_seam before x rest Free })

-- ---- a machine on well-formed lines. Fits: value number a, of a line of that kind, may hold that.
module _ {X : Type 0} (Fits : ℕ → Kind → X → Type 0) where
  pub record Named (k : Kind) (held : List X) (a : ℕ) : Type 0 where
    pub value : X
    pub there : get_elem? held a ≡ some value
    pub fits : Fits a k value

  -- what the lines before hold fits, where it can be named
  pub record Matched (before : List Line) (held : List X) : Type 0 where
    pub long : length held ≡ length before
    pub named : (a : ℕ) → T (is_usable (kind_at before a)) → Named (kind_at before a) held a

  -- line x, the i-th, may hold v; of an `out` line nothing is asked, since it is never named
  abbrev pub Result : ℕ → Line → X → Type 0
  Result i x v = T (is_usable (kind_of x)) → Fits i (kind_of x) v

-- A: the allowed reasons to stop; P: what is wanted of the line's value
module _ {X E : Type 0} (A : E → Type 0) (Fits : ℕ → Kind → X → Type 0) where
  abbrev pub OnOperand : (X → Type 0) → ℕ → Kind → (X → Step X E) → Type 0
  OnOperand P a k f = (v : X) → Fits a k v → Outcome A P (f v)

  abbrev pub OnOperands : (X → Type 0) → Grammar → ℕ → ℕ → (X → X → Step X E) → Type 0
  OnOperands P g a b f = (j k : Kind) (v w : X) → T (is_pair g j k) → Fits a j v → Fits b k w → Outcome A P (f v w)

  abbrev pub OnOne : ℕ → Line → ℕ → Kind → (X → Step X E) → Type 0
  OnOne i x a k f = OnOperand (Result Fits i x) a k f

  abbrev pub OnTwo : Grammar → ℕ → Line → ℕ → ℕ → (X → X → Step X E) → Type 0
  OnTwo g i x a b f = OnOperands (Result Fits i x) g a b f

module _ {X E : Type 0} (M : Machine X E) (A : E → Type 0) (Fits : ℕ → Kind → X → Type 0) where
  -- what the machine has to do at line x: on operands that fit it comes to a value with P, or stops for an allowed reason
  abbrev pub DutyFor : (X → Type 0) → Grammar → Line → Type 0
  DutyFor P g In = (k : ℕ) → Outcome A P (M.input k)
  DutyFor P g (Const k) = Outcome A P (M.constant k)
  DutyFor P g (Neg a) = OnOperand A Fits P a Ciphertext M.neg
  DutyFor P g (Rot a t) = OnOperand A Fits P a Ciphertext (λ v. M.rot v t)
  DutyFor P g (Add a b) = OnOperands A Fits P g a b M.add
  DutyFor P g (Mul a b) = OnOperands A Fits P g a b M.mul
  DutyFor P g (Out a) = OnOperand A Fits P a Ciphertext M.out
  DutyFor P g (Enc a s e) = OnOperand A Fits P a Constant (λ v. M.enc v s e)
  DutyFor P g (Rs a c) = OnOperand A Fits P a Ciphertext (λ v. M.rs v c)
  DutyFor P g (Ms a c) = OnOperand A Fits P a Ciphertext (λ v. M.ms v c)
  DutyFor P g (Us a b) = OnOperand A Fits P a Ciphertext (λ v. M.us v b)
  DutyFor P g Free = A M.absent

  -- the i-th line: the value fits
  abbrev pub Duty : Grammar → ℕ → Line → Type 0
  Duty g i x = DutyFor (Result Fits i x) g x

  module _ (g : Grammar) (h : Header) (before : List Line) (held : List X) (m : Matched Fits before held) where
    find : (P : X → Type 0) (a : ℕ) (k : Kind) (f : X → Step X E) → T (is_usable (kind_at before a)) → kind_at before a ≡ k → ((v : X) → Fits a k v → Outcome A P (f v))
        → Outcome A P (and_then (held_by M held a) f)
    find P a k f u e n = let o = m.named a u in outcome_found A P M held a f o.there (n o.value (subst (λ (j : Kind). Fits a j o.value) e o.fits))

    module _ (P : X → Type 0) where
      one : (a : ℕ) (k : Kind) (f : X → Step X E) → T (is_usable (kind_at before a) && true) → kind_at before a ≡ k → OnOperand A Fits P a k f
          → Outcome A P (and_then (held_by M held a) f)
      one a k f u e n = find P a k f (and_first (is_usable (kind_at before a)) true u) e n

      two : (a b : ℕ) (f : X → X → Step X E) → T (is_usable (kind_at before a) && (is_usable (kind_at before b) && true)) → T (is_pair g (kind_at before a) (kind_at before b))
          → OnOperands A Fits P g a b f → Outcome A P (and_then (held_by M held a) (λ v. and_then (held_by M held b) (f v)))
      two a b f u p n =
          let ub = and_second (is_usable (kind_at before a)) (is_usable (kind_at before b) && true) u in
          find P a (kind_at before a) (λ v. and_then (held_by M held b) (f v)) (and_first (is_usable (kind_at before a)) (is_usable (kind_at before b) && true) u) refl
          (λ v q. one b (kind_at before b) (f v) ub refl (λ w r. n (kind_at before a) (kind_at before b) v w p q r))

      pub formed_step : (ins : ℕ) (x : Line) → LineFacts g h before x → DutyFor P g x → Outcome A P (step M ins held x)
      formed_step ins In l d = d ins
      formed_step ins (Const k) l d = d
      formed_step ins (Neg a) l d = one a Ciphertext M.neg l.usable (is_ciphertext_lem (kind_at before a) l.kinds) d
      formed_step ins (Rot a t) l d = one a Ciphertext (λ v. M.rot v t) l.usable (is_ciphertext_lem (kind_at before a) l.kinds) d
      formed_step ins (Add a b) l d = two a b M.add l.usable l.kinds d
      formed_step ins (Mul a b) l d = two a b M.mul l.usable l.kinds d
      formed_step ins (Out a) l d = one a Ciphertext M.out l.usable (is_ciphertext_lem (kind_at before a) l.kinds) d
      formed_step ins (Enc a s e) l d = one a Constant (λ v. M.enc v s e) l.usable (is_constant_lem (kind_at before a) l.kinds) d
      formed_step ins (Rs a c) l d = one a Ciphertext (λ v. M.rs v c) l.usable (is_ciphertext_lem (kind_at before a) l.kinds) d
      formed_step ins (Ms a c) l d = one a Ciphertext (λ v. M.ms v c) l.usable (is_ciphertext_lem (kind_at before a) l.kinds) d
      formed_step ins (Us a b) l d = one a Ciphertext (λ v. M.us v b) l.usable (is_ciphertext_lem (kind_at before a) l.kinds) d
      formed_step ins Free l d = d

    pub one_more_lem : (x : Line) (v : X) → Result Fits (length before) x v → Matched Fits (before ++ (x ∷ [])) (held ++ (v ∷ []))
    one_more_lem x v r =
        record {
          long = length_snoc held v ∙ ap suc m.long ∙ sym (length_snoc before x);
          named = λ a u. snoc_cases before x Free a (usable_below (before ++ (x ∷ [])) a u) (λ y. T (is_usable (kind_of y)) → Named Fits (kind_of y) (held ++ (v ∷ [])) a)
              (λ b u. let o = m.named a u in record { value = o.value; there = found_after held (v ∷ []) a o.there; fits = o.fits })
              (λ e u. record {
                value = v;
                there = ap (get_elem? (held ++ (v ∷ []))) (e ∙ sym m.long) ∙ found_last held v;
                fits = subst (λ (i : ℕ). Fits i (kind_of x) v) (sym e) (r u);
              }) u;
        }

  -- a machine that does its duty at each line
  pub formed_run : (g : Grammar) (h : Header) (lines : List Line) → T (lines_formed g h [] lines)
      → ((before : List Line) (x : Line) (rest : List Line) → before ++ (x ∷ rest) ≡ lines → T (is_word g x) → T (in_range h x) → Duty g (length before) x)
      → RunOutcome A (Matched Fits lines) (run M lines)
  formed_run g h lines t duty = run_outcome M A lines (Matched Fits)
      (λ ins before held x rest e m.
      let l = formed_line g h lines t before x rest e in
      outcome_map A (step M ins held x) (λ v r. one_more_lem g h before held m x v r)
      (formed_step g h before held m (Result Fits (length before) x) ins x l (duty before x rest e l.word l.range)))
      (record { long = refl; named = λ a u. absurd u })
