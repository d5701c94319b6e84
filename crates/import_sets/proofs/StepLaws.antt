-- One turn: the first open unit comes, and those that import it are looked at again.
use Rattle.std.proofs.Common.{◌≡◌, ◌≢◌, ℕ, zero, suc, ◌+◌, ◌-◌, ◌<◌, ◌≤◌, Bool, true, false, ◌⊎◌, inl, inr, List, [], ◌∷◌, ◌++◌, append-nil, append_assoc, length, slice_set, replicate, slice_get, Option, Some, None, refl, sym, ap, ◌∙◌, subst, arith}
use Rattle.std.specs.Prelude.{◌||◌, ◌&&◌, ◌==◌, not}
use Rattle.std.proofs.lemmas.Bool.{eqb-true, eq-eqb, or_cases, not-true, and_parts}
use Rattle.std.proofs.lemmas.List.{length-set, length-replicate}
use Rattle.std.proofs.lemmas.Option.{slice_get_within}
use Rattle.scheme_model.specs.Program.{Prepared, is_in, first_ready}
use Rattle.import_sets.specs.InTurn.{in_turn, and_then}
use Rattle.import_sets.specs.InTurn as model
use Rattle.import_sets.specs.Graphs.{row, IsGraph, AreNumbered, is_marked, all_marked, is_open, AreImporters}
use Rattle.import_sets.specs.Waiting.{Places, has, HasAllBelow, Finds, Misses}
use Rattle.import_sets.proofs.ReachLaws.{or_left, or_right, in_push}
use Rattle.import_sets.proofs.WalkLaws.{set_marked}
use Rattle.import_sets.proofs.TurnLaws.{ready_at, ready_none, open_same}

not_both : {A : Type 0} (b : Bool) → b ≡ true → b ≡ false → A
not_both true p q = absurd cc
not_both false p q = absurd cc

unless_true : (b : Bool) → (b ≡ true → ⊥) → b ≡ false
unless_true true h = absurd (h refl)
unless_true false h = refl

-- ---- what the turns have come to

pub record AreTurns (g : List (List ℕ)) (ms : List Bool) (s : Places) (order : List ℕ) (i : ℕ) : Type 0 where
  pub size : length ms ≡ length g
  pub marked : (n : ℕ) → is_marked ms n ≡ is_in n order
  pub units : (n : ℕ) → has s n ≡ true → n < length g
  pub open_wait : (n : ℕ) → n < length g → is_open g ms n ≡ true → has s n ≡ true
  pub told : (ps : List Prepared) → IsGraph g ps → AreNumbered ps → order ++ in_turn ps (length ps - i) order ≡ in_turn ps (length ps) []

-- ---- the next turn

one_turn_less : (n k i : ℕ) → i < n → n ≡ k → k - i ≡ suc (k - (i + 1))
one_turn_less n k i lt e = omega arith

no_open : (g : List (List ℕ)) (ps : List Prepared) → IsGraph g ps → AreNumbered ps → (ms : List Bool) (order : List ℕ) → ((n : ℕ) → is_marked ms n ≡ is_in n order) → ((n : ℕ) → n < length g → is_open g ms n ≡ false) → (t : ℕ) → in_turn ps t order ≡ []
no_open g ps is numbered ms order same none zero = refl
no_open g ps is numbered ms order same none (suc t) =
    let missing : first_ready (model.is_open order) ps ≡ None =
    ready_none (model.is_open order) ps (λ m q at. open_same g ps is numbered order ms same m q at ∙ none m (let lt = slice_get_within ps m q at in let e = is.size in omega arith)) in
    rw missing refl

-- where no unit is open, the turns end
pub turns_end : (g : List (List ℕ)) (ms : List Bool) (s : Places) (order : List ℕ) (i : ℕ) → AreTurns g ms s order i → Misses (is_open g ms) s → (ps : List Prepared) → IsGraph g ps → AreNumbered ps → order ≡ in_turn ps (length ps) []
turns_end g ms s order i a none ps is numbered =
    sym (ap (λ (l : List ℕ). order ++ l) (no_open g ps is numbered ms order a.marked closed (length ps - i)) ∙ append-nil order) ∙ a.told ps is numbered
  where
    closed : (n : ℕ) → n < length g → is_open g ms n ≡ false
    closed n lt = unless_true (is_open g ms n) (λ h. not_both (is_open g ms n) h (none n (a.open_wait n lt h)))

pub turns_all : (g : List (List ℕ)) (ms : List Bool) (s : Places) (order : List ℕ) (i : ℕ) → length g ≤ i → AreTurns g ms s order i → (ps : List Prepared) → IsGraph g ps → AreNumbered ps → order ≡ in_turn ps (length ps) []
turns_all g ms s order i le a ps is numbered =
    let e = is.size in
    let over : length ps - i ≡ 0 = omega arith in
    sym (ap (λ t. order ++ in_turn ps t order) over ∙ append-nil order) ∙ a.told ps is numbered

all_marked_less : (ms ks : List Bool) (p : ℕ) → ((m : ℕ) → is_marked ks m ≡ (is_marked ms m || (m == p))) → (ns : List ℕ) → all_marked ks ns ≡ true → all_marked ms ns ≡ false → is_in p ns ≡ true
all_marked_less ms ks p h [] k l = absurd cc
all_marked_less ms ks p h (n ∷ ns) k l = go (all_marked_less ms ks p h ns) (and_parts (is_marked ks n) (all_marked ks ns) k) (is_marked ms n) refl
  where
    go : (all_marked ks ns ≡ true → all_marked ms ns ≡ false → is_in p ns ≡ true) → (is_marked ks n ≡ true) × (all_marked ks ns ≡ true) → (b : Bool) → is_marked ms n ≡ b → is_in p (n ∷ ns) ≡ true
    go more both true e = or_right (p == n) (is_in p ns) (more both.1 (sym (ap (λ b. b && all_marked ms ns) e) ∙ l))
    go more both false e = or_left (p == n) (is_in p ns) (eq-eqb p n (sym (eqb-true n p (sym (ap (λ b. b || (n == p)) e) ∙ sym (h n) ∙ both.0))))

pub turns_more : (g h : List (List ℕ)) (ms : List Bool) (s popped next : Places) (order : List ℕ) (i p : ℕ) → AreImporters g h → i < length g → AreTurns g ms s order i → Finds (is_open g ms) s popped p →
    ((n : ℕ) → has next n ≡ (has popped n || is_in n (row h p))) → AreTurns g (slice_set ms p true) next (order ++ p ∷ []) (i + 1)
turns_more g h ms s popped next order i p importers lt a f add = record {
  size = length-set ms p true ∙ a.size;
  marked = λ n. now n ∙ ap (λ b. b || (n == p)) (a.marked n) ∙ sym (in_push n order p);
  units = λ n w. unit n (or_cases (has popped n) (is_in n (row h p)) (sym (add n) ∙ w));
  open_wait = λ n l o. add n ∙ waits n l o (is_open g ms n) refl;
  told = told;
}
  where
    inside : p < length g
    inside = a.units p f.member

    now : (n : ℕ) → is_marked (slice_set ms p true) n ≡ (is_marked ms n || (n == p))
    now n = set_marked ms p n (let e = a.size in let l = inside in omega arith)

    unit : (n : ℕ) → (has popped n ≡ true) ⊎ (is_in n (row h p) ≡ true) → n < length g
    unit n (inl e) = a.units n (f.from_old n e)
    unit n (inr e) = importers.within p n e

    not_marked : (n : ℕ) → is_open g (slice_set ms p true) n ≡ true → is_marked (slice_set ms p true) n ≡ false
    not_marked n o = not-true (is_marked (slice_set ms p true) n) (and_parts (not (is_marked (slice_set ms p true) n)) (all_marked (slice_set ms p true) (row g n)) o).0

    was_unmarked : (n : ℕ) → is_open g (slice_set ms p true) n ≡ true → is_marked ms n ≡ false
    was_unmarked n o = unless_true (is_marked ms n) (λ e. not_both (is_marked (slice_set ms p true) n) (now n ∙ or_left (is_marked ms n) (n == p) e) (not_marked n o))

    other : (n : ℕ) → is_open g (slice_set ms p true) n ≡ true → n ≢ p
    other n o e = not_both (is_marked (slice_set ms p true) n) (now n ∙ or_right (is_marked ms n) (n == p) (eq-eqb n p e)) (not_marked n o)

    waits : (n : ℕ) → n < length g → is_open g (slice_set ms p true) n ≡ true → (b : Bool) → is_open g ms n ≡ b → (has popped n || is_in n (row h p)) ≡ true
    waits n l o true e = or_left (has popped n) (is_in n (row h p)) (f.stay n (other n o) (a.open_wait n l e) e)
    waits n l o false e =
        let before : all_marked ms (row g n) ≡ false = sym (ap (λ b. not b && all_marked ms (row g n)) (was_unmarked n o)) ∙ e in
        let after = (and_parts (not (is_marked (slice_set ms p true) n)) (all_marked (slice_set ms p true) (row g n)) o).1 in
        or_right (has popped n) (is_in n (row h p)) (importers.all n p (all_marked_less ms (slice_set ms p true) p now (row g n) after before))

    first : (ps : List Prepared) → IsGraph g ps → AreNumbered ps → (m : ℕ) (q : Prepared) → m < p → slice_get ps m ≡ Some q → model.is_open order q ≡ false
    first ps is numbered m q less at =
        open_same g ps is numbered order ms a.marked m q at
        ∙ unless_true (is_open g ms m) (λ o. let small : m < length g = let l = inside in omega arith in let le = f.first m (a.open_wait m small o) o in absurd (omega arith))

    get : (ps : List Prepared) (n : ℕ) → n < length ps → (q : Prepared) × (slice_get ps n ≡ Some q)
    get [] n l = absurd (omega arith)
    get (q ∷ ps) zero l = (q, refl)
    get (q ∷ ps) (suc n) l = get ps n (omega arith)

    turn : (ps : List Prepared) → IsGraph g ps → AreNumbered ps → (t : ℕ) → (q : Prepared) × (slice_get ps p ≡ Some q) → in_turn ps (suc t) order ≡ p ∷ in_turn ps t (order ++ p ∷ [])
    turn ps is numbered t (q, at) =
        ap (λ (o : Option Prepared). and_then o (λ p. p.number ∷ in_turn ps t (order ++ p.number ∷ [])))
        (ready_at (model.is_open order) ps p q at (open_same g ps is numbered order ms a.marked p q at ∙ f.is_open) (first ps is numbered))
        ∙ ap (λ n. n ∷ in_turn ps t (order ++ n ∷ [])) (numbered p q at).0

    told : (ps : List Prepared) → IsGraph g ps → AreNumbered ps → (order ++ p ∷ []) ++ in_turn ps (length ps - (i + 1)) (order ++ p ∷ []) ≡ in_turn ps (length ps) []
    told ps is numbered =
        append_assoc order (p ∷ []) (in_turn ps (length ps - (i + 1)) (order ++ p ∷ []))
        ∙ ap (λ (l : List ℕ). order ++ l) (sym (turn ps is numbered (length ps - (i + 1)) (get ps p (let e = is.size in let l = inside in omega arith))))
        ∙ ap (λ t. order ++ in_turn ps t order) (sym (one_turn_less (length g) (length ps) i lt is.size))
        ∙ a.told ps is numbered

-- ---- the beginning

pub turns_start : (g : List (List ℕ)) (ms : List Bool) (s : Places) (n : ℕ) → n ≡ length g → length ms ≡ n → ((m : ℕ) → is_marked ms m ≡ false) → HasAllBelow n s → AreTurns g ms s [] 0
turns_start g ms s n e size none all = record {
  size = size ∙ e;
  marked = none;
  units = λ m h. let lt = all.others m h in omega arith;
  open_wait = λ m lt o. all.all m (omega arith);
  told = λ ps is numbered. ap (λ t. in_turn ps t []) (all_left (length ps));
}
  where
    all_left : (n : ℕ) → n - 0 ≡ n
    all_left n = omega arith

unset : (n m : ℕ) → is_marked (replicate n false) m ≡ false
unset zero m = refl
unset (suc n) zero = refl
unset (suc n) (suc m) = unset n m

pub turns_first : (g : List (List ℕ)) (ms : List Bool) (s : Places) (order : List ℕ) (n k : ℕ) → n ≡ length g → k ≡ length g → ms ≡ replicate n false → order ≡ [] → HasAllBelow k s → AreTurns g ms s order 0
turns_first g ms s order n k e f m o all =
    subst (λ (order : List ℕ). AreTurns g ms s order 0) (sym o)
    (subst (λ (ms : List Bool). AreTurns g ms s [] 0) (sym m)
    (turns_start g (replicate n false) s n e (length-replicate n false) (unset n) (subst (λ (k : ℕ). HasAllBelow k s) (f ∙ sym e) all)))
