-- The class of an occurrence, which comes in as many rounds as there are links, is the least set that holds the occurrence and is
-- closed under links both ways. Each round that adds something brings in both ends of one more link.
use Rattle.std.proofs.Common.{◌≡◌, ◌⊎◌, inl, inr, ℕ, zero, suc, ◌<◌, ◌≤◌, List, [], ◌∷◌, length, Bool, true, false, cond, refl, sym, ap, ◌∙◌, subst, arith}
use Rattle.std.specs.Prelude.{◌&&◌, ◌||◌, ◌==◌, if◌then◌else◌}
use Rattle.std.proofs.lemmas.Bool.{cases_lt, or_cases}
use Rattle.std.proofs.lemmas.Bool.Decides.{nat_tests}
use Rattle.scheme_model.specs.declared.Occ.{Occ}
use Rattle.scheme_model.specs.Entries.{Source, At, StandardName, same_occ}
use Rattle.scheme_model.specs.Spelling.{Link, is_member, with_member, across, joined, closed, class_of}
use Rattle.program_leaves.specs.Members.{IsIn}
use Rattle.arrow_index.specs.Classes.{HasBothOrNone, IsClosed}
use Rattle.program_leaves.proofs.KeyLaws.{one_occ, left, right}

-- ---- tests

pub or_left : (a b : Bool) → a ≡ true → (a || b) ≡ true
or_left true b h = refl
or_left false b h = absurd cc

pub or_right : (a b : Bool) → b ≡ true → (a || b) ≡ true
or_right true b h = refl
or_right false b h = h

pub and_both : (a b : Bool) → a ≡ true → b ≡ true → (a && b) ≡ true
and_both true b h k = k
and_both false b h k = absurd cc

pub same_test : (a b : Bool) → (a ≡ true → b ≡ true) → (b ≡ true → a ≡ true) → a ≡ b
same_test true b f g = sym (f refl)
same_test false true f g = g refl
same_test false false f g = refl

-- ---- members

same_number : (a : ℕ) → (a == a) ≡ true
same_number a = grind (arith, nat_tests)

pub itself : (o : Occ) → same_occ o o ≡ true
itself o = and_both _ _ (same_number o.unit) (and_both _ _ (same_number o.form) (same_number o.token))

pub member_in : (o : Occ) (ms : List Occ) → is_member ms o ≡ true → IsIn o ms
member_in o [] h = absurd cc
member_in o (p ∷ ms) h = by_case (member_in o ms) (or_cases (same_occ p o) (is_member ms o) h)
  where
    by_case : (is_member ms o ≡ true → IsIn o ms) → (same_occ p o ≡ true) ⊎ (is_member ms o ≡ true) → (p ≡ o) ⊎ IsIn o ms
    by_case more (inl e) = inl (one_occ p o e)
    by_case more (inr e) = inr (more e)

pub in_member : (o : Occ) (ms : List Occ) → IsIn o ms → is_member ms o ≡ true
in_member o [] h = absurd h
in_member o (p ∷ ms) (inl e) = or_left (same_occ p o) (is_member ms o) (ap (λ (x : Occ). same_occ x o) e ∙ itself o)
in_member o (p ∷ ms) (inr h) = or_right (same_occ p o) (is_member ms o) (in_member o ms h)

-- one set has what another has
abbrev pub Within : (Occ → Bool) → (Occ → Bool) → Type 0
Within f g = (x : Occ) → f x ≡ true → g x ≡ true

with_keeps : (o : Occ) (ms : List Occ) → Within (is_member ms) (is_member (with_member o ms))
with_keeps o ms x h = by_test (is_member ms o)
  where
    by_test : (b : Bool) → is_member (if b then ms else o ∷ ms) x ≡ true
    by_test true = h
    by_test false = or_right (same_occ o x) (is_member ms x) h

with_adds : (o : Occ) (ms : List Occ) → is_member (with_member o ms) o ≡ true
with_adds o ms = by_test (is_member ms o) refl
  where
    by_test : (b : Bool) → is_member ms o ≡ b → is_member (if b then ms else o ∷ ms) o ≡ true
    by_test true h = h
    by_test false h = or_left (same_occ o o) (is_member ms o) (itself o)

with_within : (f : Occ → Bool) (o : Occ) (ms : List Occ) → f o ≡ true → Within (is_member ms) f → Within (is_member (with_member o ms)) f
with_within f o ms e h x k = by_test (is_member ms o) k
  where
    by_case : (same_occ o x ≡ true) ⊎ (is_member ms x ≡ true) → f x ≡ true
    by_case (inl s) = sym (ap f (one_occ o x s)) ∙ e
    by_case (inr m) = h x m

    by_test : (b : Bool) → is_member (if b then ms else o ∷ ms) x ≡ true → f x ≡ true
    by_test true m = h x m
    by_test false m = by_case (or_cases (same_occ o x) (is_member ms x) m)

-- ---- across one link

across_keeps : (g : Source) (t : Occ) (ms : List Occ) → Within (is_member ms) (is_member (across g t ms))
across_keeps (At o) t ms x h = by_test (is_member ms o) (is_member ms t)
  where
    by_test : (a b : Bool) → is_member (if a then with_member t ms else if b then with_member o ms else ms) x ≡ true
    by_test true b = with_keeps t ms x h
    by_test false true = with_keeps o ms x h
    by_test false false = h
across_keeps (StandardName s) t ms x h = h

-- both ends are there where one was
across_both : (o t : Occ) (ms : List Occ) → (is_member ms o ≡ true) ⊎ (is_member ms t ≡ true) → (is_member (across (At o) t ms) o && is_member (across (At o) t ms) t) ≡ true
across_both o t ms h = by_test (is_member ms o) refl (is_member ms t) refl h
  where
    by_test : (a : Bool) → is_member ms o ≡ a → (b : Bool) → is_member ms t ≡ b → (a ≡ true) ⊎ (b ≡ true) →
        (is_member (if a then with_member t ms else if b then with_member o ms else ms) o && is_member (if a then with_member t ms else if b then with_member o ms else ms) t) ≡ true
    by_test true p b q k = and_both _ _ (with_keeps t ms o p) (with_adds t ms)
    by_test false p true q k = and_both _ _ (with_adds o ms) (with_keeps o ms t q)
    by_test false p false q (inl k) = absurd cc
    by_test false p false q (inr k) = absurd cc

across_within : (f : Occ → Bool) (g : Source) (t : Occ) (ms : List Occ) → HasBothOrNone f g t → Within (is_member ms) f → Within (is_member (across g t ms)) f
across_within f (At o) t ms e h x k = by_test (is_member ms o) refl (is_member ms t) refl k
  where
    by_test : (a : Bool) → is_member ms o ≡ a → (b : Bool) → is_member ms t ≡ b → is_member (if a then with_member t ms else if b then with_member o ms else ms) x ≡ true → f x ≡ true
    by_test true p b q m = with_within f t ms (sym e ∙ h o p) h x m
    by_test false p true q m = with_within f o ms (e ∙ h t q) h x m
    by_test false p false q m = h x m
across_within f (StandardName s) t ms e h x k = h x k

-- ---- one round

joined_keeps : (ls : List Link) (ms : List Occ) → Within (is_member ms) (is_member (joined ls ms))
joined_keeps [] ms x h = h
joined_keeps (l ∷ ls) ms x h = joined_keeps ls (across l.origin l.target ms) x (across_keeps l.origin l.target ms x h)

-- what a set has of a link: both ends, or it joins nothing
abbrev has_both : (Occ → Bool) → Source → Occ → Bool
has_both f (At o) t = f o && f t
has_both f (StandardName s) t = true

abbrev Touches : (Occ → Bool) → Source → Occ → Type 0
Touches f (At o) t = (f o ≡ true) ⊎ (f t ≡ true)
Touches f (StandardName s) t = Unit {0}

both_more : (f g : Occ → Bool) (s : Source) (t : Occ) → Within f g → has_both f s t ≡ true → has_both g s t ≡ true
both_more f g (At o) t h k = and_both (g o) (g t) (h o (left (f o) (f t) k)) (h t (right (f o) (f t) k))
both_more f g (StandardName s) t h k = refl

touches_more : (f g : Occ → Bool) (s : Source) (t : Occ) → Within f g → Touches f s t → Touches g s t
touches_more f g (At o) t h (inl k) = inl (h o k)
touches_more f g (At o) t h (inr k) = inr (h t k)
touches_more f g (StandardName s) t h k = tt

across_has : (s : Source) (t : Occ) (ms : List Occ) → Touches (is_member ms) s t → has_both (is_member (across s t ms)) s t ≡ true
across_has (At o) t ms h = across_both o t ms h
across_has (StandardName s) t ms h = refl

joined_has : (ls : List Link) (ms : List Occ) (l : Link) → IsIn l ls → Touches (is_member ms) l.origin l.target → has_both (is_member (joined ls ms)) l.origin l.target ≡ true
joined_has [] ms l h k = absurd h
joined_has (m ∷ ls) ms l (inl e) k =
    both_more (is_member (across m.origin m.target ms)) (is_member (joined ls (across m.origin m.target ms))) l.origin l.target (joined_keeps ls (across m.origin m.target ms))
    (subst (λ (n : Link). has_both (is_member (across m.origin m.target ms)) n.origin n.target ≡ true) e
    (across_has m.origin m.target ms (subst (λ (n : Link). Touches (is_member ms) n.origin n.target) (sym e) k)))
joined_has (m ∷ ls) ms l (inr h) k =
    joined_has ls (across m.origin m.target ms) l h (touches_more (is_member ms) (is_member (across m.origin m.target ms)) l.origin l.target (across_keeps m.origin m.target ms) k)

joined_within : (ls : List Link) (f : Occ → Bool) (ms : List Occ) → IsClosed ls f → Within (is_member ms) f → Within (is_member (joined ls ms)) f
joined_within [] f ms c h x k = h x k
joined_within (l ∷ ls) f ms c h x k =
    joined_within ls f (across l.origin l.target ms) (λ m i. c m (inr i)) (across_within f l.origin l.target ms (c l (inl refl)) h) x k

-- ---- how many links have both ends in a set

count : List Link → (Occ → Bool) → ℕ
count [] f = 0
count (l ∷ ls) f = cond (has_both f l.origin l.target) (suc (count ls f)) (count ls f)

count_bound : (ls : List Link) (f : Occ → Bool) → count ls f ≤ length ls
unfolding count
count_bound [] f = omega arith
count_bound (l ∷ ls) f = go (has_both f l.origin l.target) (count_bound ls f)
  where
    go : (b : Bool) → count ls f ≤ length ls → cond b (suc (count ls f)) (count ls f) ≤ suc (length ls)
    go true h = omega arith
    go false h = omega arith

count_less : (ls : List Link) (f g : Occ → Bool) → Within f g → count ls f ≤ count ls g
unfolding count
count_less [] f g h = omega arith
count_less (l ∷ ls) f g h = go (has_both f l.origin l.target) refl (has_both g l.origin l.target) refl (count_less ls f g h)
  where
    go : (a : Bool) → has_both f l.origin l.target ≡ a → (b : Bool) → has_both g l.origin l.target ≡ b → count ls f ≤ count ls g → cond a (suc (count ls f)) (count ls f) ≤ cond b (suc (count ls g)) (count ls g)
    go true p true q k = omega arith
    go true p false q k = let e : false ≡ true = sym q ∙ both_more f g l.origin l.target h p in absurd cc
    go false p true q k = omega arith
    go false p false q k = k

-- where the wider set has no more of them, each that it has is one of the narrower set's
count_same : (ls : List Link) (f g : Occ → Bool) → Within f g → count ls g ≤ count ls f → (l : Link) → IsIn l ls → has_both g l.origin l.target ≡ true → has_both f l.origin l.target ≡ true
unfolding count
count_same [] f g h le l i k = absurd i
count_same (m ∷ ls) f g h le l i k = go (has_both f m.origin m.target) refl (has_both g m.origin m.target) refl le i (count_less ls f g h) (λ e j. count_same ls f g h e l j k)
  where
    go : (a : Bool) → has_both f m.origin m.target ≡ a → (b : Bool) → has_both g m.origin m.target ≡ b → cond b (suc (count ls g)) (count ls g) ≤ cond a (suc (count ls f)) (count ls f) → (m ≡ l) ⊎ IsIn l ls →
        count ls f ≤ count ls g → (count ls g ≤ count ls f → IsIn l ls → has_both f l.origin l.target ≡ true) → has_both f l.origin l.target ≡ true
    go true p b q w (inl e) less more = sym (ap (λ (n : Link). has_both f n.origin n.target) e) ∙ p
    go true p true q w (inr j) less more = more (omega (arith, w)) j
    go true p false q w (inr j) less more = let e : false ≡ true = sym q ∙ both_more f g m.origin m.target h p in absurd cc
    go false p true q w (inl e) less more = absurd (omega (arith, w, less))
    go false p false q w (inl e) less more = let z : false ≡ true = sym q ∙ ap (λ (n : Link). has_both g n.origin n.target) e ∙ k in absurd cc
    go false p true q w (inr j) less more = more (omega (arith, w)) j
    go false p false q w (inr j) less more = more w j

count_all : (ls : List Link) (f : Occ → Bool) → length ls ≤ count ls f → (l : Link) → IsIn l ls → has_both f l.origin l.target ≡ true
unfolding count
count_all [] f h l i = absurd i
count_all (m ∷ ls) f h l i = go (has_both f m.origin m.target) refl h i (count_bound ls f) (λ e j. count_all ls f e l j)
  where
    go : (a : Bool) → has_both f m.origin m.target ≡ a → suc (length ls) ≤ cond a (suc (count ls f)) (count ls f) → (m ≡ l) ⊎ IsIn l ls → count ls f ≤ length ls → (length ls ≤ count ls f → IsIn l ls → has_both f l.origin l.target ≡ true) →
        has_both f l.origin l.target ≡ true
    go true p w (inl e) b more = sym (ap (λ (n : Link). has_both f n.origin n.target) e) ∙ p
    go true p w (inr j) b more = more (omega (arith, w)) j
    go false p w j b more = absurd (omega (arith, w, b))

-- ---- one round after another

closed_more : (ls : List Link) (n : ℕ) (ms : List Occ) → closed ls (suc n) ms ≡ joined ls (closed ls n ms)
closed_more ls zero ms = refl
closed_more ls (suc n) ms = closed_more ls n (joined ls ms)

-- both ends are in where one is, and so both or none
both_or_none : (f : Occ → Bool) (s : Source) (t : Occ) → (Touches f s t → has_both f s t ≡ true) → HasBothOrNone f s t
both_or_none f (At o) t h = same_test (f o) (f t) (λ k. right (f o) (f t) (h (inl k))) (λ k. left (f o) (f t) (h (inr k)))
both_or_none f (StandardName s) t h = tt

closed_grows : (ls : List Link) (ms : List Occ) → IsClosed ls (is_member ms) → IsClosed ls (is_member (joined ls ms))
closed_grows ls ms c l i = subst (λ (f : Occ → Bool). HasBothOrNone f l.origin l.target) (λ j x. same x j) (c l i)
  where
    same : (x : Occ) → is_member ms x ≡ is_member (joined ls ms) x
    same x = same_test (is_member ms x) (is_member (joined ls ms) x) (joined_keeps ls ms x) (joined_within ls (is_member ms) ms c (λ y k. k) x)

saturated : (ls : List Link) (ms : List Occ) (k : ℕ) → IsClosed ls (is_member (closed ls k ms)) ⊎ (k ≤ count ls (is_member (closed ls k ms)))
saturated ls ms zero = inr (omega arith)
saturated ls ms (suc k) =
    subst (λ (xs : List Occ). IsClosed ls (is_member xs) ⊎ (suc k ≤ count ls (is_member xs))) (sym (closed_more ls k ms)) (go (saturated ls ms k))
  where
    go : IsClosed ls (is_member (closed ls k ms)) ⊎ (k ≤ count ls (is_member (closed ls k ms))) →
        IsClosed ls (is_member (joined ls (closed ls k ms))) ⊎ (suc k ≤ count ls (is_member (joined ls (closed ls k ms))))
    go (inl c) = inl (closed_grows ls (closed ls k ms) c)
    go (inr le) = by (cases_lt (count ls (is_member (closed ls k ms))) (count ls (is_member (joined ls (closed ls k ms)))))
      where
        by : (count ls (is_member (closed ls k ms)) < count ls (is_member (joined ls (closed ls k ms)))) ⊎ (count ls (is_member (joined ls (closed ls k ms))) ≤ count ls (is_member (closed ls k ms))) →
            IsClosed ls (is_member (joined ls (closed ls k ms))) ⊎ (suc k ≤ count ls (is_member (joined ls (closed ls k ms))))
        by (inl lt) = inr (omega (arith, le, lt))
        by (inr ge) =
            inl (closed_grows ls (closed ls k ms) (λ l i. both_or_none (is_member (closed ls k ms)) l.origin l.target (λ t.
            count_same ls (is_member (closed ls k ms)) (is_member (joined ls (closed ls k ms))) (joined_keeps ls (closed ls k ms)) ge l i (joined_has ls (closed ls k ms) l i t))))

closed_keeps : (ls : List Link) (k : ℕ) (ms : List Occ) → Within (is_member ms) (is_member (closed ls k ms))
closed_keeps ls zero ms x h = h
closed_keeps ls (suc k) ms x h = closed_keeps ls k (joined ls ms) x (joined_keeps ls ms x h)

closed_within : (ls : List Link) (f : Occ → Bool) (k : ℕ) (ms : List Occ) → IsClosed ls f → Within (is_member ms) f → Within (is_member (closed ls k ms)) f
closed_within ls f zero ms c h x m = h x m
closed_within ls f (suc k) ms c h x m = closed_within ls f k (joined ls ms) c (joined_within ls f ms c h) x m

-- ---- the class

pub class_holds : (ls : List Link) (o : Occ) → is_member (class_of ls o) o ≡ true
class_holds ls o = closed_keeps ls (length ls) (o ∷ []) o (or_left (same_occ o o) false (itself o))

pub class_closed : (ls : List Link) (o : Occ) → IsClosed ls (is_member (class_of ls o))
class_closed ls o = go (saturated ls (o ∷ []) (length ls))
  where
    go : IsClosed ls (is_member (class_of ls o)) ⊎ (length ls ≤ count ls (is_member (class_of ls o))) → IsClosed ls (is_member (class_of ls o))
    go (inl c) = c
    go (inr le) = λ l i. both_or_none (is_member (class_of ls o)) l.origin l.target (λ t. count_all ls (is_member (class_of ls o)) le l i)

pub class_least : (ls : List Link) (o : Occ) (f : Occ → Bool) → f o ≡ true → IsClosed ls f → Within (is_member (class_of ls o)) f
class_least ls o f h c = closed_within ls f (length ls) (o ∷ []) c first
  where
    first : Within (is_member (o ∷ [])) f
    first x k = by_case (or_cases (same_occ o x) false k)
      where
        by_case : (same_occ o x ≡ true) ⊎ (false ≡ true) → f x ≡ true
        by_case (inl e) = sym (ap f (one_occ o x e)) ∙ h
        by_case (inr e) = absurd cc

-- it hangs on the members of the links alone
pub class_among : (ls ms : List Link) (o : Occ) → ((l : Link) → IsIn l ls → IsIn l ms) → Within (is_member (class_of ls o)) (is_member (class_of ms o))
class_among ls ms o h = class_least ls o (is_member (class_of ms o)) (class_holds ms o) (λ l i. class_closed ms o l (h l i))

pub same_class : (ls ms : List Link) (o : Occ) → ((l : Link) → IsIn l ls → IsIn l ms) → ((l : Link) → IsIn l ms → IsIn l ls) → (x : Occ) → is_member (class_of ls o) x ≡ is_member (class_of ms o) x
same_class ls ms o h k x = same_test (is_member (class_of ls o) x) (is_member (class_of ms o) x) (class_among ls ms o h x) (class_among ms ls o k x)
