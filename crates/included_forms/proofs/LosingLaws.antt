-- The strings that steps lose, from the last step to the first.
use Rattle.std.proofs.Common.{◌≡◌, ℕ, zero, suc, ◌+◌, ◌<◌, ◌≤◌, List, [], ◌∷◌, ◌++◌, length, get_or, take, drop, set, map, reverse, Bool, true, false, Some, slice_get, refl, sym, ap, ◌∙◌, subst, arith, ◌⊎◌, inl, inr}
use Rattle.std.specs.Prelude.{◌||◌, if◌then◌else◌}
use Rattle.std.specs.List.{list_any}
use Rattle.std.proofs.lemmas.List.{drop_more, at_drop_all, map-append, reverse-append}
use Rattle.scheme_model.specs.Included as model
use Rattle.scheme_model.specs.Included.{Listing, Lists, nothing, is_same_string, with_one, with_lost, in_a_row, given_at}
use Rattle.included_forms.specs.declared.steps.Way.{Way}
use Rattle.included_forms.specs.declared.steps.Way.TheVariants as way
use Rattle.included_forms.specs.declared.given.LostString.{LostString}
use Rattle.included_forms.specs.declared.given.Given.{Given}
use Rattle.included_forms.specs.declared.losing.Visit.{Visit}
use Rattle.included_forms.specs.Counted.{lost_of, in_way, listing_of}
use Rattle.included_forms.specs.Listed.{IsLists}
use Rattle.included_forms.specs.Losses.{lost_in, AreAmong, visited_in, same_way, AreSeen, Loses}
use Rattle.included_forms.proofs.TableLaws.{splits}
use Rattle.included_forms.proofs.BuildLaws.{there_or_last, set_same, set_other, same_or_other}

-- ---- strings that are the same

same_through : (a b k : model.LostString) → is_same_string a b ≡ true → is_same_string b k ≡ true → is_same_string a k ≡ true
same_through a b k e h = grind arith

same_itself : (a : model.LostString) → is_same_string a a ≡ true
same_itself a = grind arith

same_among : (a b : model.LostString) (ks : List model.LostString) → is_same_string a b ≡ true → list_any (is_same_string b) ks ≡ true → list_any (is_same_string a) ks ≡ true
same_among a b [] e h = h
same_among a b (k ∷ ks) e h = grind (arith, same_through a b k e, same_among a b ks e)

-- ---- strings among others

with_one_by : (a b : model.LostString) (ks : List model.LostString) (t : Bool) → list_any (is_same_string b) ks ≡ t → (is_same_string a b || list_any (is_same_string a) ks) ≡ true →
    list_any (is_same_string a) (if t then ks else b ∷ ks) ≡ true
with_one_by a b ks true e h = grind (arith, λ (q : is_same_string a b ≡ true). same_among a b ks q e)
with_one_by a b ks false e h = h

or_second : (x y : Bool) → y ≡ true → (x || y) ≡ true
or_second true y h = refl
or_second false y h = h

or_first : (x y : Bool) → x ≡ true → (x || y) ≡ true
or_first true y h = refl
or_first false y h = absurd cc

or_further : (x y z : Bool) → (x || y) ≡ true → (y ≡ true → z ≡ true) → (x || z) ≡ true
or_further true y z h k = refl
or_further false y z h k = k h

-- what is among some stays among them behind others
among_second : (a : model.LostString) (ls ks : List model.LostString) → list_any (is_same_string a) ks ≡ true → list_any (is_same_string a) (with_lost ls ks) ≡ true
among_second a [] ks h = h
among_second a (l ∷ ls) ks h =
    with_one_by a l (with_lost ls ks) (list_any (is_same_string l) (with_lost ls ks)) refl (or_second (is_same_string a l) (list_any (is_same_string a) (with_lost ls ks)) (among_second a ls ks h))

among_first : (a : model.LostString) (ls ks : List model.LostString) → list_any (is_same_string a) ls ≡ true → list_any (is_same_string a) (with_lost ls ks) ≡ true
among_first a [] ks h = absurd cc
among_first a (l ∷ ls) ks h =
    with_one_by a l (with_lost ls ks) (list_any (is_same_string l) (with_lost ls ks)) refl
    (or_further (is_same_string a l) (list_any (is_same_string a) ls) (list_any (is_same_string a) (with_lost ls ks)) h (among_first a ls ks))

among_more : (ls ms ks : List model.LostString) → AreAmong ls ks → AreAmong ls (with_lost ms ks)
among_more [] ms ks h = tt
among_more (l ∷ ls) ms ks h = (among_second l ms ks h.0, among_more ls ms ks h.1)

among_longer : (l : model.LostString) (ls ks : List model.LostString) → AreAmong ls ks → AreAmong ls (with_one l ks)
among_longer l ls ks h = among_more ls (l ∷ []) ks h

all_among : (ls ks : List model.LostString) → AreAmong ls (with_lost ls ks)
all_among [] ks = tt
all_among (l ∷ ls) ks =
    (with_one_by l l (with_lost ls ks) (list_any (is_same_string l) (with_lost ls ks)) refl (or_first (is_same_string l l) (list_any (is_same_string l) (with_lost ls ks)) (same_itself l)), among_longer l ls (with_lost ls ks) (all_among ls ks))

-- those that are there add nothing
none_new : (ls ks : List model.LostString) → AreAmong ls ks → with_lost ls ks ≡ ks
none_new [] ks h = refl
none_new (l ∷ ls) ks h = ap (with_one l) (none_new ls ks h.1) ∙ ap (λ (b : Bool). if b then ks else l ∷ ks) h.0

one_joined_by : (l : model.LostString) (ms ks : List model.LostString) (t : Bool) → list_any (is_same_string l) ms ≡ t → with_lost (if t then ms else l ∷ ms) ks ≡ with_one l (with_lost ms ks)
one_joined_by l ms ks true e = sym (ap (λ (b : Bool). if b then with_lost ms ks else l ∷ with_lost ms ks) (among_first l ms ks e))
one_joined_by l ms ks false e = refl

lost_joined : (ls ms ks : List model.LostString) → with_lost (with_lost ls ms) ks ≡ with_lost ls (with_lost ms ks)
lost_joined [] ms ks = refl
lost_joined (l ∷ ls) ms ks =
    one_joined_by l (with_lost ls ms) ks (list_any (is_same_string l) (with_lost ls ms)) refl ∙ ap (with_one l) (lost_joined ls ms ks)

-- the strings of a row stand there once
pub row_once : (limit : ℕ) (xs : List Listing) (n : ℕ) (fs : List model.FlatForm) (ls : List model.LostString) → in_a_row limit xs ≡ Lists n fs ls → with_lost ls [] ≡ ls
row_once limit [] n fs ls e = let none : [] ≡ ls = cc in ap (λ (ks : List model.LostString). with_lost ks []) (sym none) ∙ none
row_once limit (x ∷ xs) n fs ls e =
    let p = splits limit x xs n fs ls e in
    ap (λ (ks : List model.LostString). with_lost ks []) p.lost ∙ lost_joined p.strings p.other_strings [] ∙ ap (with_lost p.strings) (row_once limit xs p.other_tokens p.other_forms p.other_strings p.others) ∙ sym p.lost

-- ---- strings that are found

-- one more was found
pub lost_push : (found : List LostString) (s : LostString) → lost_in (found ++ s ∷ []) ≡ with_one (lost_of s) (lost_in found)
lost_push found s = ap (λ (ls : List model.LostString). with_lost ls []) (ap reverse (map-append lost_of found (s ∷ [])) ∙ reverse-append (map lost_of found) (lost_of s ∷ []))

seen_more : (gs : List model.Given) (visits : List Visit) (old new : List LostString) (ms : List model.LostString) → lost_in new ≡ with_lost ms (lost_in old) → AreSeen gs visits old → AreSeen gs visits new
seen_more gs visits old new ms e h k v w is was n fs ls g = subst (AreAmong ls) (sym e) (among_more ls ms (lost_in old) (h k v w is was n fs ls g))

-- ---- no text was gone through

pub fresh_more : (visits : List Visit) (x : Visit) → ((k : ℕ) (v : Visit) (w : Way) → slice_get visits k ≡ Some v → visited_in v w ≡ false) → ((w : Way) → visited_in x w ≡ false) →
    (k : ℕ) (v : Visit) (w : Way) → slice_get (visits ++ x ∷ []) k ≡ Some v → visited_in v w ≡ false
fresh_more visits x h here k v w is = by (there_or_last visits x k v is)
  where
    by : (slice_get visits k ≡ Some v) ⊎ ((k ≡ length visits) × (x ≡ v)) → visited_in v w ≡ false
    by (inl q) = h k v w q
    by (inr q) = ap (λ (y : Visit). visited_in y w) (sym q.1) ∙ here w

-- ---- one step

pub no_strings : (l : Listing) (m n : ℕ) (gs fs : List model.FlatForm) (ls : List model.LostString) → l ≡ Lists m gs [] → l ≡ Lists n fs ls → ls ≡ []
no_strings l m n gs fs ls e is = let same : Lists m gs [] ≡ Lists n fs ls = sym e ∙ is in cc

pub loses_nothing : (gs : List model.Given) (visits : List Visit) (old : List LostString) (ls : List model.LostString) → AreSeen gs visits old → ls ≡ [] → Loses gs old visits old ls
loses_nothing gs visits old ls h e = record { seen = h; found = ap (λ (ks : List model.LostString). with_lost ks (lost_in old)) (sym e) }

pub loses_one : (gs : List model.Given) (visits : List Visit) (old new : List LostString) (s : LostString) (l : Listing) (n : ℕ) (fs : List model.FlatForm) (ls : List model.LostString) → AreSeen gs visits old → new ≡ old ++ s ∷ [] →
    l ≡ Lists 0 [] (lost_of s ∷ []) → l ≡ Lists n fs ls → Loses gs old visits new ls
loses_one gs visits old new s l n fs ls h e is q =
    let same : Lists 0 [] (lost_of s ∷ []) ≡ Lists n fs ls = sym is ∙ q in
    let one : lost_of s ∷ [] ≡ ls = cc in
    let found : lost_in new ≡ with_lost ls (lost_in old) = ap lost_in e ∙ lost_push old s ∙ ap (λ (ks : List model.LostString). with_lost ks (lost_in old)) one in
    record { seen = seen_more gs visits old new ls found h; found = found }

-- the text was gone through before
pub loses_seen : (gs : List model.Given) (visits : List Visit) (found : List LostString) (k : ℕ) (v : Visit) (w : Way) (n : ℕ) (fs : List model.FlatForm) (ls : List model.LostString) → AreSeen gs visits found → slice_get visits k ≡ Some v → visited_in v w ≡ true →
    in_way (given_at gs k) w ≡ Lists n fs ls → Loses gs found visits found ls
loses_seen gs visits found k v w n fs ls h is was e = record { seen = h; found = sym (none_new ls (lost_in found) (h k v w is was n fs ls e)) }

way_same : (a b : Way) → same_way a b ≡ true → a ≡ b
way_same way.Forms way.Forms h = refl
way_same way.Forms way.Declarations h = absurd cc
way_same way.Declarations way.Forms h = absurd cc
way_same way.Declarations way.Declarations h = refl

-- the text is gone through now
pub loses_marked : (gs : List model.Given) (old : List LostString) (visits : List Visit) (new : List LostString) (k : ℕ) (v u : Visit) (w : Way) (n : ℕ) (fs : List model.FlatForm) (ls : List model.LostString) → Loses gs old visits new ls →
    in_way (given_at gs k) w ≡ Lists n fs ls → slice_get visits k ≡ Some v → k < length visits → ((x : Way) → visited_in u x ≡ (visited_in v x || same_way w x)) → Loses gs old (set visits k u) new ls
loses_marked gs old visits new k v u w n fs ls h gives is low marked = record { seen = λ j a x at was m gs' ks g. by j a x at was m gs' ks g (same_or_other j k); found = h.found }
  where
    or_cases : (x y : Bool) → (x || y) ≡ true → (x ≡ true) ⊎ (y ≡ true)
    or_cases true y q = inl refl
    or_cases false y q = inr q

    all_now : AreAmong ls (lost_in new)
    all_now = subst (AreAmong ls) (sym h.found) (all_among ls (lost_in old))

    by : (j : ℕ) (a : Visit) (x : Way) → slice_get (set visits k u) j ≡ Some a → visited_in a x ≡ true → (m : ℕ) (gs' : List model.FlatForm) (ks : List model.LostString) → in_way (given_at gs j) x ≡ Lists m gs' ks → (j ≡ k) ⊎ (j ≡ k → ⊥) →
        AreAmong ks (lost_in new)
    by j a x at was m gs' ks g (inr e) = h.seen j a x (sym (set_other visits k j u e) ∙ at) was m gs' ks g
    by j a x at was m gs' ks g (inl e) =
        let there : Some u ≡ Some a = sym (set_same visits k u low) ∙ ap (slice_get (set visits k u)) (sym e) ∙ at in
        let same : a ≡ u = cc in
        here (or_cases (visited_in v x) (same_way w x) (sym (marked x) ∙ ap (λ (b : Visit). visited_in b x) (sym same) ∙ was))
      where
        there : in_way (given_at gs k) x ≡ Lists m gs' ks
        there = ap (λ i. in_way (given_at gs i) x) (sym e) ∙ g

        here : (visited_in v x ≡ true) ⊎ (same_way w x ≡ true) → AreAmong ks (lost_in new)
        here (inl q) = h.seen k v x is q m gs' ks there
        here (inr q) =
            let same : Lists n fs ls ≡ Lists m gs' ks = sym gives ∙ ap (in_way (given_at gs k)) (way_same w x q) ∙ there in
            let strings : ls ≡ ks = cc in
            subst (λ (xs : List model.LostString). AreAmong xs (lost_in new)) strings all_now

-- ---- steps, the last first

-- a row that lists lists from each place on
lists_on : (limit : ℕ) (give : Given → Listing) (ss : List Given) (k n : ℕ) (fs : List model.FlatForm) (ls : List model.LostString) → in_a_row limit (map give ss) ≡ Lists n fs ls → IsLists (in_a_row limit (map give (drop k ss)))
lists_on limit give [] zero n fs ls e = (n, fs, ls, e)
lists_on limit give [] (suc k) n fs ls e = (0, [], [], refl)
lists_on limit give (s ∷ ss) zero n fs ls e = (n, fs, ls, e)
lists_on limit give (s ∷ ss) (suc k) n fs ls e = let h = splits limit (give s) (map give ss) n fs ls e in lists_on limit give ss k h.other_tokens h.other_forms h.other_strings h.others

-- the strings of the steps from a place on were found
pub record LosesFrom (limit : ℕ) (gs : List model.Given) (below : ℕ) (ss : List Given) (k : ℕ) (old : List LostString) (visits : List Visit) (now : List LostString) : Type 0 where
  pub seen : AreSeen gs visits now
  pub found : (n : ℕ) (fs : List model.FlatForm) (ls : List model.LostString) → in_a_row limit (map (listing_of (take below gs)) (drop k ss)) ≡ Lists n fs ls → lost_in now ≡ with_lost ls (lost_in old)

pub loses_first : (limit : ℕ) (gs : List model.Given) (below : ℕ) (ss : List Given) (k : ℕ) (visits : List Visit) (old : List LostString) → length ss ≤ k → AreSeen gs visits old → LosesFrom limit gs below ss k old visits old
loses_first limit gs below ss k visits old e h = record {
  seen = h;
  found = λ n fs ls is.
      let same : nothing ≡ Lists n fs ls = sym (at_drop_all (λ (xs : List Given). in_a_row limit (map (listing_of (take below gs)) xs)) ss k e) ∙ is in
      let none : [] ≡ ls = cc in
      ap (λ (ks : List model.LostString). with_lost ks (lost_in old)) none;
}

module _ (limit : ℕ) (gs : List model.Given) (below : ℕ) (ss : List Given) (i k : ℕ) (s : Given) (old : List LostString) (visits visits' : List Visit) (now new : List LostString) (next : i + 1 ≡ k) (lt : i < length ss) (is : s ≡ get_or ss i s) where
  front : map (listing_of (take below gs)) (drop i ss) ≡ listing_of (take below gs) s ∷ map (listing_of (take below gs)) (drop k ss)
  front = ap (map (listing_of (take below gs))) (drop_more ss i s lt ∙ ap (λ (x : Given). x ∷ drop (i + 1) ss) (sym is)) ∙ ap (λ j. listing_of (take below gs) s ∷ map (listing_of (take below gs)) (drop j ss)) next

  pub loses_more : (n : ℕ) (fs : List model.FlatForm) (ls : List model.LostString) → in_a_row limit (map (listing_of (take below gs)) ss) ≡ Lists n fs ls → LosesFrom limit gs below ss k old visits now →
      ((n : ℕ) (fs : List model.FlatForm) (ls : List model.LostString) → listing_of (take below gs) s ≡ Lists n fs ls → Loses gs now visits' new ls) → LosesFrom limit gs below ss i old visits' new
  loses_more n fs ls e h step = record { seen = there (lists_on limit (listing_of (take below gs)) ss i n fs ls e); found = further }
    where
      there : IsLists (in_a_row limit (map (listing_of (take below gs)) (drop i ss))) → AreSeen gs visits' new
      there q =
          let p = splits limit (listing_of (take below gs) s) (map (listing_of (take below gs)) (drop k ss)) q.0 q.1 q.2 (ap (in_a_row limit) (sym front) ∙ q.3) in
          (step p.tokens p.forms p.strings p.first).seen

      further : (m : ℕ) (gs' : List model.FlatForm) (ks : List model.LostString) → in_a_row limit (map (listing_of (take below gs)) (drop i ss)) ≡ Lists m gs' ks → lost_in new ≡ with_lost ks (lost_in old)
      further m gs' ks q =
          let p = splits limit (listing_of (take below gs) s) (map (listing_of (take below gs)) (drop k ss)) m gs' ks (ap (in_a_row limit) (sym front) ∙ q) in
          (step p.tokens p.forms p.strings p.first).found
          ∙ ap (with_lost p.strings) (h.found p.other_tokens p.other_forms p.other_strings p.others)
          ∙ sym (lost_joined p.strings p.other_strings (lost_in old))
          ∙ ap (λ (xs : List model.LostString). with_lost xs (lost_in old)) (sym p.lost)

pub loses_end : (limit : ℕ) (gs : List model.Given) (below : ℕ) (ss : List Given) (k : ℕ) (old : List LostString) (visits : List Visit) (now : List LostString) (n : ℕ) (fs : List model.FlatForm) (ls : List model.LostString) → k ≡ 0 →
    in_a_row limit (map (listing_of (take below gs)) ss) ≡ Lists n fs ls → LosesFrom limit gs below ss k old visits now → Loses gs old visits now ls
loses_end limit gs below ss k old visits now n fs ls none e h = record {
  seen = h.seen;
  found = h.found n fs ls (ap (λ j. in_a_row limit (map (listing_of (take below gs)) (drop j ss))) none ∙ e);
}
