-- Units that break, and that stay otherwise.
use Rattle.std.proofs.Common.{◌≡◌, ℕ, zero, suc, ◌+◌, ◌<◌, ◌≤◌, Bool, true, false, cond, ◌⊎◌, inl, inr, List, [], ◌∷◌, ◌++◌, append-nil, append_assoc, length, take, drop, get_or, slice_get, slice_set, Option, Some, None, Result, Ok, Err, refl, sym, ap, ◌∙◌, subst, arith}
use Rattle.std.specs.Prelude.{◌||◌, ◌==◌, IfOk}
use Rattle.std.proofs.lemmas.Bool.{eq-eqb, eqb-true, or_cases}
use Rattle.std.specs.Option.{option_to_list}
use Rattle.std.proofs.lemmas.List.{drop_more}
use Rattle.std.proofs.lemmas.Option.{same_Some}
use Rattle.scheme_model.specs.Program.{is_in}
use Rattle.import_sets.proofs.ReachLaws.{in_push, or_none, or_right}
use Rattle.import_sets.specs.declared.set.ImportSet as set
use Rattle.import_sets.specs.Firsts.{first_place, place_in}
use Rattle.unit_sources.specs.declared.units.UnitSource.{UnitSource}
use Rattle.unit_sources.specs.Named.{with_place}
use Rattle.unit_sources.specs.Orders.{ArePlaces}
use Rattle.read_documents.specs.declared.heads.Head.{Head}
use Rattle.read_documents.specs.declared.heads.WholeFault.{WholeFault}
use Rattle.read_documents.specs.Places.{SameHead, HeadsStay, NamesKept, AreHeadsIn}
use Rattle.read_documents.specs.Libraries.{places_by}
use Rattle.read_documents.specs.Broken.{or_fault, broken_by, broken_if, Breaks, SameSource}
use Rattle.read_documents.proofs.ChangedLaws.{changes_itself, changes_as, changes_on, changes_set}

-- ---- heads stay

pub head_itself : (h : Head) → SameHead h h
head_itself h = record { document = refl; kind = refl; span = refl; firsts = refl; homes = refl; names = refl; ranges = refl }

pub head_on : (a b c : Head) → SameHead a b → SameHead b c → SameHead a c
head_on a b c h k = record { document = k.document ∙ h.document; kind = k.kind ∙ h.kind; span = k.span ∙ h.span; firsts = k.firsts ∙ h.firsts; homes = k.homes ∙ h.homes; names = k.names ∙ h.names; ranges = k.ranges ∙ h.ranges }

pub head_broken : (b : Bool) (f : WholeFault) (h : Head) → SameHead h (broken_if b f h)
head_broken true f h = record { document = refl; kind = refl; span = refl; firsts = refl; homes = refl; names = refl; ranges = refl }
head_broken false f h = head_itself h

pub heads_itself : (hs : List Head) → HeadsStay hs hs
heads_itself hs = changes_itself (λ n. SameHead) (λ n h. head_itself h) hs

pub heads_on : (xs bs cs : List Head) → HeadsStay xs bs → HeadsStay bs cs → HeadsStay xs cs
heads_on xs bs cs h k = changes_on (λ n. SameHead) (λ n. head_on) xs bs cs h k

-- a unit's head becomes another that stays
pub head_set : (xs bs : List Head) (p : ℕ) (h g : Head) → HeadsStay xs bs → slice_get bs p ≡ Some h → SameHead h g → HeadsStay xs (slice_set bs p g)
head_set xs bs p h g stay at same = changes_set (λ n. SameHead) (λ n. SameHead) xs bs p h g stay at (λ n a b ne k. k) (λ a k. head_on a h g k same)

pub heads_in : (count : ℕ) (xs bs : List Head) → HeadsStay xs bs → AreHeadsIn count xs → AreHeadsIn count bs
heads_in count xs bs stay h = λ n g at. let r = stay.each n g at in let lt = h n r.0 r.1.0 in let same = r.1.1.document in omega arith

-- ---- names are kept

abbrev SameNames : Head → Head → Type 0
SameNames h g = (g.name ≡ h.name) × (g.imports ≡ h.imports)

pub names_itself : (hs : List Head) → NamesKept hs hs
names_itself hs = changes_itself (λ n. SameNames) (λ n h. (refl, refl)) hs

pub names_then : (xs bs cs : List Head) → NamesKept xs bs → NamesKept bs cs → NamesKept xs cs
names_then xs bs cs h k = changes_on (λ n. SameNames) (λ n x y z a b. (b.0 ∙ a.0, b.1 ∙ a.1)) xs bs cs h k

pub names_broken : (xs : List Head) (p : ℕ) (h g : Head) (b : Bool) (f : WholeFault) → slice_get xs p ≡ Some h → g ≡ broken_if b f h → NamesKept xs (slice_set xs p g)
names_broken xs p h g b f at is =
    changes_set (λ n. SameNames) (λ n. SameNames) xs xs p h g (names_itself xs) at (λ n x y ne k. k)
    (λ a k. subst (λ (x : Head). SameNames a x) (sym is) (go b a k))
  where
    go : (b : Bool) (a : Head) → SameNames a h → SameNames a (broken_if b f h)
    go true a k = k
    go false a k = k

-- ---- units break

broken_twice : (b : Bool) (f : WholeFault) (h : Head) → broken_by f (broken_if b f h) ≡ broken_by f h
broken_twice false f h = refl
broken_twice true f h = ap (λ (o : Option WholeFault). record h { fault = o }) (go h.fault)
  where
    go : (o : Option WholeFault) → or_fault (or_fault o f) f ≡ or_fault o f
    go None = refl
    go (Some g) = refl

pub breaks_none : (f : WholeFault) (hs : List Head) → Breaks f [] hs hs
breaks_none f hs = changes_itself (λ n h g. g ≡ broken_if (is_in n []) f h) (λ n h. refl) hs

pub breaks_more : (f : WholeFault) (ps : List ℕ) (p : ℕ) (xs bs : List Head) (h : Head) → Breaks f ps xs bs → slice_get bs p ≡ Some h → Breaks f (ps ++ p ∷ []) xs (slice_set bs p (broken_by f h))
breaks_more f ps p xs bs h breaks at =
    changes_set (λ n a b. b ≡ broken_if (is_in n ps) f a) (λ n a b. b ≡ broken_if (is_in n (ps ++ p ∷ [])) f a) xs bs p h (broken_by f h) breaks at
    (λ n a b ne k. k ∙ sym (ap (λ (x : Bool). broken_if x f a) (in_push n ps p ∙ ap (λ (x : Bool). is_in n ps || x) (apart n ne) ∙ or_none (is_in n ps))))
    (λ a k.
    ap (broken_by f) k ∙ broken_twice (is_in p ps) f a
    ∙ sym (ap (λ (x : Bool). broken_if x f a) (in_push p ps p ∙ or_right (is_in p ps) (p == p) (eq-eqb p p refl))))
  where
    apart : (n : ℕ) → (n ≡ p → ⊥) → (n == p) ≡ false
    apart n ne = go (n == p) refl
      where
        go : (b : Bool) → (n == p) ≡ b → (n == p) ≡ false
        go true e = absurd (ne (eqb-true n p e))
        go false e = e

pub breaks_stay : (f : WholeFault) (ps : List ℕ) (xs bs : List Head) → Breaks f ps xs bs → HeadsStay xs bs
breaks_stay f ps xs bs h =
    changes_as (λ n a b. b ≡ broken_if (is_in n ps) f a) (λ n. SameHead) (λ n a b k. subst (SameHead a) (sym k) (head_broken (is_in n ps) f a)) xs bs h

-- ---- sources stay

pub source_itself : (s : UnitSource) → SameSource s s
source_itself s = record { kind = refl; name = refl; span = refl; exports = refl; forms = refl; imports = inl refl }

pub source_without : (s : UnitSource) → SameSource s (record s { imports = [] })
source_without s = record { kind = refl; name = refl; span = refl; exports = refl; forms = refl; imports = inr refl }

-- ---- places of names

pub set_below : (find : List ℕ → Option ℕ) (count : ℕ) → ((s : List ℕ) (n : ℕ) → find s ≡ Some n → n < count) → (c : set.ImportSet) (n : ℕ) → place_in find c ≡ Some n → n < count
set_below find count below (set.Library t) n h = below t n h
set_below find count below (set.Only' p c ns) n h = set_below find count below c n h
set_below find count below (set.Except' p c ns) n h = set_below find count below c n h
set_below find count below (set.Prefix' p c t) n h = set_below find count below c n h
set_below find count below (set.Rename' p c ps) n h = set_below find count below c n h
set_below find count below set.Bad n h = absurd cc

pub places_below : (find : List ℕ → Option ℕ) (count : ℕ) → ((s : List ℕ) (n : ℕ) → find s ≡ Some n → n < count) → (names : List (List ℕ)) (n : ℕ) → is_in n (places_by find names) ≡ true → n < count
places_below find count below [] n h = absurd cc
places_below find count below (s ∷ names) n h = go (places_below find count below names n) (find s) refl h
  where
    go : (is_in n (places_by find names) ≡ true → n < count) → (o : Option ℕ) → find s ≡ o → is_in n (with_place o (places_by find names)) ≡ true → n < count
    go more None e i = more i
    go more (Some m) e i = by (or_cases (n == m) (is_in n (places_by find names)) i)
      where
        by : ((n == m) ≡ true) ⊎ (is_in n (places_by find names) ≡ true) → n < count
        by (inl j) = let same = eqb-true n m j in let lt = below s m e in omega arith
        by (inr j) = more j

-- one place more
pub place_step : {A : Type 0} (find : A → Option ℕ) (all : List A → List ℕ) → ((x : A) (xs : List A) → all (x ∷ xs) ≡ with_place (find x) (all xs)) → (xs : List A) (i : ℕ) (x : A) (o : Option ℕ) (old new whole : List ℕ) → i < length xs →
    x ≡ get_or xs i x → o ≡ find x → new ≡ old ++ option_to_list o → old ++ all (drop i xs) ≡ whole → new ++ all (drop (i + 1) xs) ≡ whole
place_step {A} find all cons xs i x o old new whole lt is found n before =
    ap (λ (l : List ℕ). l ++ all (drop (i + 1) xs)) n ∙ ap (λ (q : Option ℕ). (old ++ option_to_list q) ++ all (drop (i + 1) xs)) found ∙ go (find x) ∙ ap (λ (l : List ℕ). old ++ l) (sym (cons x (drop (i + 1) xs)))
    ∙ sym (ap (λ (l : List A). old ++ all l) (drop_more xs i x lt ∙ ap (λ (y : A). y ∷ drop (i + 1) xs) (sym is))) ∙ before
  where
    go : (q : Option ℕ) → (old ++ option_to_list q) ++ all (drop (i + 1) xs) ≡ old ++ with_place q (all (drop (i + 1) xs))
    go None = ap (λ (l : List ℕ). l ++ all (drop (i + 1) xs)) (append-nil old)
    go (Some n) = append_assoc old (n ∷ []) (all (drop (i + 1) xs))

-- ---- first places

pub first_below : {A : Type 0} (test : A → Bool) (k : ℕ) (xs : List A) (n : ℕ) → first_place test k xs ≡ Some n → n < k + length xs
first_below test k [] n h = absurd cc
first_below test k (x ∷ xs) n h = go (first_below test (suc k) xs n) (test x) h
  where
    go : (first_place test (suc k) xs ≡ Some n → n < suc k + length xs) → (b : Bool) → cond b (Some k) (first_place test (suc k) xs) ≡ Some n → n < k + suc (length xs)
    go more true e = let same : k ≡ n = same_Some k n e in omega arith
    go more false e = let lt = more e in omega arith

pub few_taken : {A : Type 0} (n : ℕ) (xs : List A) → length (take n xs) ≤ n
few_taken zero xs = omega arith
few_taken (suc n) [] = omega arith
few_taken (suc n) (x ∷ xs) = let le = few_taken n xs in omega arith

pub taken_within : {A : Type 0} (n : ℕ) (xs : List A) → length (take n xs) ≤ length xs
taken_within zero xs = omega arith
taken_within (suc n) [] = omega arith
taken_within (suc n) (x ∷ xs) = let le = taken_within n xs in omega arith

pub all_taken : {A : Type 0} (n : ℕ) (xs : List A) → length xs ≤ n → xs ≡ take n xs
all_taken zero [] le = refl
all_taken zero (x ∷ xs) le = absurd (omega arith)
all_taken (suc n) [] le = refl
all_taken {A} (suc n) (x ∷ xs) le = ap (λ (ys : List A). x ∷ ys) (all_taken n xs (omega arith))

pub places_wider : {E : Type 0} (r : Result (List ℕ) E) (few many : ℕ) → few ≤ many → IfOk r (ArePlaces few) → IfOk r (ArePlaces many)
places_wider (Ok places) few many le h = record { within = λ n i. let lt = h.within n i in omega arith; once = h.once }
places_wider (Err e) few many le h = tt
