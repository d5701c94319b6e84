-- Going from an occurrence over links: what is reached in the end is its class.
use Rattle.std.proofs.Common.{◌≡◌, ◌⊎◌, inl, inr, ℕ, suc, List, [], ◌∷◌, ◌++◌, length, filter, Bool, true, false, cond, refl, sym, ap, ◌∙◌, subst, arith}
use Rattle.std.specs.Prelude.{◌&&◌, ◌||◌, not}
use Rattle.std.specs.List.{list_any}
use Rattle.std.specs.Ordering.{is_eq}
use Rattle.std.specs.BTreeSet.{BTreeSet, contains, btree_set_len}
use Rattle.std.proofs.lemmas.Bool.{or_cases}
use Rattle.std.proofs.lemmas.List.{length_push}
use Rattle.scheme_model.specs.declared.Occ.{Occ}
use Rattle.scheme_model.specs.Entries.{Source, At, StandardName, same_occ}
use Rattle.scheme_model.specs.ProgramArrows.{Arrow, uses_at}
use Rattle.scheme_model.specs.Spelling.{Link, is_member, class_of, is_place, is_end, is_joined}
use Rattle.program_leaves.specs.Pairs.{AreOccs}
use Rattle.program_leaves.specs.Members.{IsIn}
use Rattle.program_leaves.specs.Placed.{occ_cmp}
use Rattle.arrow_index.specs.Links.{source_of, as_link}
use Rattle.arrow_index.specs.declared.links.LinkOrigin.{LinkOrigin}
use Rattle.arrow_index.specs.declared.links.LinkOrigin.TheVariants.{Place, Standard}
use Rattle.arrow_index.specs.Classes.{HasBothOrNone, IsClosed, ways_across, ways_over, ways_of, Gains, Reaches}
use Rattle.program_leaves.proofs.KeyLaws.{one_occ, occs_equal, occs_flip, occ_added}
use Rattle.program_leaves.proofs.MemberLaws.{in_from, contains_from, in_map, from_map, in_flat_map, from_flat_map}
use Rattle.arrow_index.proofs.BinderLaws.{in_filter, from_filter}
use Rattle.arrow_index.proofs.ClassLaws.{or_left, or_right, same_test, itself, member_in, in_member, class_holds, class_closed, class_least}

-- ---- what passes a test

pub any_from : {X : Type 0} (f : X → Bool) (x : X) (xs : List X) → IsIn x xs → f x ≡ true → list_any f xs ≡ true
any_from f x [] h e = absurd h
any_from f x (y ∷ ys) (inl k) e = or_left (f y) (list_any f ys) (ap f k ∙ e)
any_from f x (y ∷ ys) (inr k) e = or_right (f y) (list_any f ys) (any_from f x ys k e)

pub any_in : {X : Type 0} (f : X → Bool) (xs : List X) → list_any f xs ≡ true → (x : X) × IsIn x xs × (f x ≡ true)
any_in f [] h = absurd cc
any_in {X = X} f (y ∷ ys) h = by_case (any_in f ys) (or_cases (f y) (list_any f ys) h)
  where
    by_case : (list_any f ys ≡ true → (x : X) × IsIn x ys × (f x ≡ true)) → (f y ≡ true) ⊎ (list_any f ys ≡ true) → (x : X) × IsIn x (y ∷ ys) × (f x ≡ true)
    by_case more (inl e) = (y, inl refl, e)
    by_case more (inr e) = let r = more e in (r.0, inr r.1, r.2)

-- what links join hangs on the members of the links alone
pub same_joined : (ls ms : List Link) (o : Occ) → ((l : Link) → IsIn l ls → IsIn l ms) → ((l : Link) → IsIn l ms → IsIn l ls) → is_joined ls o ≡ is_joined ms o
same_joined ls ms o h k = same_test (is_joined ls o) (is_joined ms o) (one ls ms h) (one ms ls k)
  where
    one : (xs ys : List Link) → ((l : Link) → IsIn l xs → IsIn l ys) → is_joined xs o ≡ true → is_joined ys o ≡ true
    one xs ys g e = let r = any_in (is_end o) xs e in any_from (is_end o) r.0 ys (g r.0 r.1) r.2

-- ---- ways

abbrev pub IsWay : List Link → Occ → Occ → Type 0
IsWay ls x y = IsIn y (uses_at (ways_of ls) x)

way_there : (ls : List Link) (l : Link) (a : Arrow) → IsIn l ls → IsIn a (ways_over l) → IsWay ls a.binder a.target
way_there ls l a h k =
    in_map (λ (b : Arrow). b.target) a (filter (λ (b : Arrow). same_occ b.binder a.binder) (ways_of ls)) (in_filter (λ (b : Arrow). same_occ b.binder a.binder) a (ways_of ls) (in_flat_map ways_over l a ls h k) (itself a.binder))

record Way (ls : List Link) (x y : Occ) : Type 0 where
  link : Link
  among : IsIn link ls
  arrow : Arrow
  over : IsIn arrow (ways_over link)
  from : arrow.binder ≡ x
  to : arrow.target ≡ y

way_from : (ls : List Link) (x y : Occ) → IsWay ls x y → Way ls x y
way_from ls x y h =
    let m = from_map (λ (b : Arrow). b.target) y (filter (λ (b : Arrow). same_occ b.binder x) (ways_of ls)) h in
    let f = from_filter (λ (b : Arrow). same_occ b.binder x) m.0 (ways_of ls) m.1 in
    let r = from_flat_map ways_over m.0 ls f.0 in
    record { link = r.0; among = r.1; arrow = m.0; over = r.2; from = one_occ m.0.binder x f.1; to = m.2 }

arrow_ends : (g : Source) (t : Occ) (p : List ℕ) (a : Arrow) → IsIn a (ways_across g t) → (is_end a.binder (record { origin = g; target = t; prefix = p }) ≡ true) × (is_end a.target (record { origin = g; target = t; prefix = p }) ≡ true)
arrow_ends (At o) t p a (inl e) = (or_right (same_occ t a.binder) (same_occ o a.binder) (ap (λ (b : Arrow). same_occ o b.binder) (sym e) ∙ itself o), or_left (same_occ t a.target) (same_occ o a.target) (ap (λ (b : Arrow). same_occ t b.target) (sym e) ∙ itself t))
arrow_ends (At o) t p a (inr (inl e)) = (or_left (same_occ t a.binder) (same_occ o a.binder) (ap (λ (b : Arrow). same_occ t b.binder) (sym e) ∙ itself t), or_right (same_occ t a.target) (same_occ o a.target) (ap (λ (b : Arrow). same_occ o b.target) (sym e) ∙ itself o))
arrow_ends (At o) t p a (inr (inr e)) = absurd e
arrow_ends (StandardName s) t p a h = absurd h

arrow_alike : (f : Occ → Bool) (g : Source) (t : Occ) (a : Arrow) → HasBothOrNone f g t → IsIn a (ways_across g t) → f a.binder ≡ f a.target
arrow_alike f (At o) t a h (inl e) = ap (λ (b : Arrow). f b.binder) (sym e) ∙ h ∙ ap (λ (b : Arrow). f b.target) e
arrow_alike f (At o) t a h (inr (inl e)) = ap (λ (b : Arrow). f b.binder) (sym e) ∙ sym h ∙ ap (λ (b : Arrow). f b.target) e
arrow_alike f (At o) t a h (inr (inr e)) = absurd e
arrow_alike f (StandardName s) t a h k = absurd k

pub way_joined : (ls : List Link) (x y : Occ) → IsWay ls x y → is_joined ls y ≡ true
way_joined ls x y h =
    let w = way_from ls x y h in
    let e = arrow_ends w.link.origin w.link.target w.link.prefix w.arrow w.over in
    any_from (is_end y) w.link ls w.among (ap (λ (z : Occ). is_end z w.link) (sym w.to) ∙ e.1)

pub way_begins : (ls : List Link) (x y : Occ) → IsWay ls x y → is_joined ls x ≡ true
way_begins ls x y h =
    let w = way_from ls x y h in
    let e = arrow_ends w.link.origin w.link.target w.link.prefix w.arrow w.over in
    any_from (is_end x) w.link ls w.among (ap (λ (z : Occ). is_end z w.link) (sym w.from) ∙ e.0)

pub way_in_class : (ls : List Link) (o x y : Occ) → IsWay ls x y → is_member (class_of ls o) x ≡ true → is_member (class_of ls o) y ≡ true
way_in_class ls o x y h k =
    let w = way_from ls x y h in
    let e = arrow_alike (is_member (class_of ls o)) w.link.origin w.link.target w.arrow (class_closed ls o w.link w.among) w.over in
    ap (is_member (class_of ls o)) (sym w.to) ∙ sym e ∙ ap (is_member (class_of ls o)) w.from ∙ k

-- ---- members of lists that grow

pub member_push : (ms : List Occ) (o x : Occ) → is_member (ms ++ o ∷ []) x ≡ (is_member ms x || same_occ o x)
member_push [] o x = none (same_occ o x)
  where
    none : (b : Bool) → (b || false) ≡ b
    none true = refl
    none false = refl
member_push (m ∷ ms) o x = ap (λ (b : Bool). same_occ m x || b) (member_push ms o x) ∙ joined (same_occ m x) (is_member ms x) (same_occ o x)
  where
    joined : (a b c : Bool) → (a || (b || c)) ≡ ((a || b) || c)
    joined true b c = refl
    joined false b c = refl

-- ---- sets that change

pub gains_none : (s : BTreeSet Occ) (f : Occ → Bool) → ((o : Occ) → f o ≡ false) → Gains s s f
gains_none s f h o = by_test (contains occ_cmp s o) (f o) (h o)
  where
    by_test : (a b : Bool) → b ≡ false → a ≡ (a || b)
    by_test true b e = refl
    by_test false b e = sym e

pub gains_again : (s t u : BTreeSet Occ) (f g h : Occ → Bool) → Gains s t f → Gains t u g → ((o : Occ) → h o ≡ (f o || g o)) → Gains s u h
gains_again s t u f g h p q e o = q o ∙ ap (λ (b : Bool). b || g o) (p o) ∙ joined (contains occ_cmp s o) (f o) (g o) ∙ ap (λ (b : Bool). contains occ_cmp s o || b) (sym (e o))
  where
    joined : (a b c : Bool) → ((a || b) || c) ≡ (a || (b || c))
    joined true b c = refl
    joined false b c = refl

pub gains_one : (s t : BTreeSet Occ) (p : Occ) → ((o : Occ) → contains occ_cmp t o ≡ cond (is_eq (occ_cmp p o)) true (contains occ_cmp s o)) → Gains s t (same_occ p)
gains_one s t p h o = occ_added p o (contains occ_cmp s o) (contains occ_cmp t o) (h o) ∙ ap (λ (b : Bool). contains occ_cmp s o || b) (occs_flip o p)

-- the ends of a link
pub gains_place : (s t u : BTreeSet Occ) (g : LinkOrigin) (target place : Occ) (p : List ℕ) → g ≡ Place place → Gains s t (same_occ target) → Gains t u (same_occ place) →
    Gains s u (λ o. is_end o (as_link (record { origin = g; target = target; prefix = p })))
gains_place s t u g target place p e h k = gains_again s t u (same_occ target) (same_occ place) (λ o. is_end o (as_link (record { origin = g; target = target; prefix = p }))) h k (λ o j. same_occ target o || is_place (source_of (e j)) o)

pub gains_standard : (s t : BTreeSet Occ) (g : LinkOrigin) (target : Occ) (n p : List ℕ) → g ≡ Standard n → Gains s t (same_occ target) → Gains s t (λ o. is_end o (as_link (record { origin = g; target = target; prefix = p })))
gains_standard s t g target n p e h o = h o ∙ ap (λ (b : Bool). contains occ_cmp s o || b) (none (same_occ target o) ∙ (λ j. same_occ target o || is_place (source_of (sym e j)) o))
  where
    none : (b : Bool) → b ≡ (b || false)
    none true = refl
    none false = refl

pub reaches_none : (s : BTreeSet Occ) (was : List Occ) (f : Occ → Bool) → ((o : Occ) → contains occ_cmp s o ≡ true → f o ≡ false) → Reaches s was s was f
reaches_none s was f h = record {
  taken = λ o. taken (contains occ_cmp s o) (f o) (h o);
  put = λ o. put (is_member was o) (contains occ_cmp s o) (f o) (h o);
  work = refl;
}
  where
    taken : (a b : Bool) → (a ≡ true → b ≡ false) → a ≡ (a && not b)
    taken true b k = sym (ap not (k refl))
    taken false b k = refl

    put : (w a b : Bool) → (a ≡ true → b ≡ false) → w ≡ (w || (a && b))
    put true a b k = refl
    put false true b k = sym (k refl)
    put false false b k = refl

pub reaches_one : (s t : BTreeSet Occ) (was left : List Occ) (o : Occ) → contains occ_cmp s o ≡ true → ((x : Occ) → contains occ_cmp t x ≡ cond (is_eq (occ_cmp o x)) false (contains occ_cmp s x)) → suc (btree_set_len t) ≡ btree_set_len s → left ≡ was ++ o ∷ [] →
    Reaches s was t left (same_occ o)
reaches_one s t was left o here out less e = record {
  taken = λ x. out x ∙ ap (λ (b : Bool). cond b false (contains occ_cmp s x)) (occs_equal o x) ∙ taken (contains occ_cmp s x) (same_occ o x);
  put = λ x. ap (λ (q : List Occ). is_member q x) e ∙ member_push was o x ∙ ap (λ (b : Bool). is_member was x || b) (put x (same_occ o x) refl);
  work = let n = ap length e ∙ length_push was o in omega (arith, n, less);
}
  where
    taken : (a b : Bool) → cond b false a ≡ (a && not b)
    taken true true = refl
    taken true false = refl
    taken false true = refl
    taken false false = refl

    put : (x : Occ) (b : Bool) → same_occ o x ≡ b → b ≡ (contains occ_cmp s x && b)
    put x true h = sym (ap (λ (y : Occ). contains occ_cmp s y && true) (sym (one_occ o x h)) ∙ ap (λ (c : Bool). c && true) here)
    put x false h = nothing (contains occ_cmp s x)
      where
        nothing : (a : Bool) → false ≡ (a && false)
        nothing true = refl
        nothing false = refl

pub reaches_again : (s t u : BTreeSet Occ) (was mid left : List Occ) (f g h : Occ → Bool) → Reaches s was t mid f → Reaches t mid u left g → ((o : Occ) → h o ≡ (f o || g o)) → Reaches s was u left h
reaches_again s t u was mid left f g h p q e = record {
  taken = λ o. q.taken o ∙ ap (λ (b : Bool). b && not (g o)) (p.taken o) ∙ taken (contains occ_cmp s o) (f o) (g o) ∙ ap (λ (b : Bool). contains occ_cmp s o && not b) (sym (e o));
  put = λ o. q.put o ∙ (λ j. p.put o j || (p.taken o j && g o)) ∙ put (is_member was o) (contains occ_cmp s o) (f o) (g o) ∙ ap (λ (b : Bool). is_member was o || (contains occ_cmp s o && b)) (sym (e o));
  work = q.work ∙ p.work;
}
  where
    taken : (a b c : Bool) → ((a && not b) && not c) ≡ (a && not (b || c))
    taken true true c = refl
    taken true false c = refl
    taken false b c = refl

    put : (w a b c : Bool) → ((w || (a && b)) || ((a && not b) && c)) ≡ (w || (a && (b || c)))
    put true a b c = refl
    put false true true c = refl
    put false true false c = refl
    put false false b c = refl

-- ---- a walk

-- the start is reached; what is left to be gone on from is reached; what is reached of what links join is of the class; and from
-- what is reached and isn't left each way leads to what is reached
pub record IsWalk (ls : List Link) (o : Occ) (outside : BTreeSet Occ) (left : List Occ) : Type 0 where
  pub start : contains occ_cmp outside o ≡ false
  pub reached : (x : Occ) → is_member left x ≡ true → contains occ_cmp outside x ≡ false
  pub ends : (x : Occ) → is_member left x ≡ true → is_joined ls x ≡ true
  pub sound : (x : Occ) → is_joined ls x ≡ true → contains occ_cmp outside x ≡ false → is_member (class_of ls o) x ≡ true
  pub gone : (x y : Occ) → IsWay ls x y → contains occ_cmp outside x ≡ false → is_member left x ≡ false → contains occ_cmp outside y ≡ false

not_both : {A : Type 0} (b : Bool) → b ≡ true → b ≡ false → A
not_both true h k = absurd cc
not_both false h k = absurd cc

pub walk_first : (ls : List Link) (o : Occ) (ends outside : BTreeSet Occ) (left : List Occ) → ((x : Occ) → contains occ_cmp ends x ≡ is_joined ls x) → Reaches ends [] outside left (same_occ o) → IsWalk ls o outside left
walk_first ls o ends outside left are r = record {
  start = r.taken o ∙ ap (λ (b : Bool). contains occ_cmp ends o && not b) (itself o) ∙ nothing (contains occ_cmp ends o);
  reached = λ x h. r.taken x ∙ by_put (contains occ_cmp ends x) (same_occ o x) (sym (r.put x) ∙ h);
  ends = λ x h. sym (are x) ∙ there (contains occ_cmp ends x) (same_occ o x) (sym (r.put x) ∙ h);
  sound = λ x j h. by_taken x (contains occ_cmp ends x) (same_occ o x) refl (are x ∙ j) (sym (r.taken x) ∙ h);
  gone = λ x y w h k. not_both (is_member left x) (r.put x ∙ again (contains occ_cmp ends x) (same_occ o x) (are x ∙ way_begins ls x y w) (sym (r.taken x) ∙ h)) k;
}
  where
    nothing : (b : Bool) → (b && false) ≡ false
    nothing true = refl
    nothing false = refl

    by_put : (a b : Bool) → (a && b) ≡ true → (a && not b) ≡ false
    by_put true true h = refl
    by_put true false h = absurd cc
    by_put false b h = refl

    there : (a b : Bool) → (a && b) ≡ true → a ≡ true
    there true b h = refl
    there false b h = absurd cc

    by_taken : (x : Occ) (a b : Bool) → same_occ o x ≡ b → a ≡ true → (a && not b) ≡ false → is_member (class_of ls o) x ≡ true
    by_taken x true true e j h = ap (is_member (class_of ls o)) (sym (one_occ o x e)) ∙ class_holds ls o
    by_taken x true false e j h = absurd cc
    by_taken x false b e j h = absurd cc

    again : (a b : Bool) → a ≡ true → (a && not b) ≡ false → (a && b) ≡ true
    again true true e h = refl
    again true false e h = absurd cc
    again false b e h = absurd cc

-- the ways from an occurrence that was left are gone
pub walk_next : (ls : List Link) (o n : Occ) (outside after : BTreeSet Occ) (rest left next : List Occ) → AreOccs next (uses_at (ways_of ls) n) → Reaches outside rest after left (is_member next) → IsWalk ls o outside (rest ++ n ∷ []) →
    IsWalk ls o after left
walk_next ls o n outside after rest left next are r w = record {
  start = still o w.start;
  reached = λ x h. by_put x (or_cases (is_member rest x) (contains occ_cmp outside x && is_member next x) (sym (r.put x) ∙ h));
  ends = λ x h. joined x (or_cases (is_member rest x) (contains occ_cmp outside x && is_member next x) (sym (r.put x) ∙ h));
  sound = λ x j h. by_taken x j (contains occ_cmp outside x) refl (is_member next x) refl (sym (r.taken x) ∙ h);
  gone = λ x y k h m. leads x y k (contains occ_cmp outside x) refl (is_member next x) refl (is_member rest x) refl (sym (r.taken x) ∙ h) (sym (r.put x) ∙ m);
}
  where
    second : (a b : Bool) → (a && b) ≡ true → b ≡ true
    second true b h = h
    second false b h = absurd cc

    -- what isn't outside stays so
    still : (x : Occ) → contains occ_cmp outside x ≡ false → contains occ_cmp after x ≡ false
    still x h = r.taken x ∙ ap (λ (b : Bool). b && not (is_member next x)) h

    met : (x : Occ) → is_member next x ≡ true → contains occ_cmp after x ≡ false
    met x h = r.taken x ∙ ap (λ (b : Bool). contains occ_cmp outside x && not b) h ∙ nothing (contains occ_cmp outside x)
      where
        nothing : (b : Bool) → (b && false) ≡ false
        nothing true = refl
        nothing false = refl

    way_to : (x : Occ) → is_member next x ≡ true → IsWay ls n x
    way_to x h = in_from x (uses_at (ways_of ls) n) ((are.same x).0 (contains_from x next (member_in x next h)))

    by_way : (x : Occ) → IsWay ls n x → is_member next x ≡ true
    by_way x h = in_member x next (in_from x next ((are.same x).1 (contains_from x (uses_at (ways_of ls) n) h)))

    earlier : (x : Occ) → is_member rest x ≡ true → is_member (rest ++ n ∷ []) x ≡ true
    earlier x h = member_push rest n x ∙ or_left (is_member rest x) (same_occ n x) h

    itself_left : is_member (rest ++ n ∷ []) n ≡ true
    itself_left = member_push rest n n ∙ or_right (is_member rest n) (same_occ n n) (itself n)

    by_put : (x : Occ) → (is_member rest x ≡ true) ⊎ ((contains occ_cmp outside x && is_member next x) ≡ true) → contains occ_cmp after x ≡ false
    by_put x (inl h) = still x (w.reached x (earlier x h))
    by_put x (inr h) = met x (second (contains occ_cmp outside x) (is_member next x) h)

    joined : (x : Occ) → (is_member rest x ≡ true) ⊎ ((contains occ_cmp outside x && is_member next x) ≡ true) → is_joined ls x ≡ true
    joined x (inl h) = w.ends x (earlier x h)
    joined x (inr h) = way_joined ls n x (way_to x (second (contains occ_cmp outside x) (is_member next x) h))

    by_taken : (x : Occ) → is_joined ls x ≡ true → (a : Bool) → contains occ_cmp outside x ≡ a → (b : Bool) → is_member next x ≡ b → (a && not b) ≡ false → is_member (class_of ls o) x ≡ true
    by_taken x j false p b q h = w.sound x j p
    by_taken x j true p true q h = way_in_class ls o n x (way_to x q) (w.sound n (w.ends n itself_left) (w.reached n itself_left))
    by_taken x j true p false q h = absurd cc

    -- it is the one whose ways are gone, or it was reached before and isn't left
    old : (x y : Occ) → IsWay ls x y → contains occ_cmp outside x ≡ false → is_member rest x ≡ false → (b : Bool) → same_occ n x ≡ b → contains occ_cmp after y ≡ false
    old x y k p h true e = met y (by_way y (subst (λ (z : Occ). IsWay ls z y) (sym (one_occ n x e)) k))
    old x y k p h false e = still y (w.gone x y k p (member_push rest n x ∙ (λ j. h j || e j)))

    leads : (x y : Occ) → IsWay ls x y → (a : Bool) → contains occ_cmp outside x ≡ a → (b : Bool) → is_member next x ≡ b → (c : Bool) → is_member rest x ≡ c → (a && not b) ≡ false → (c || (a && b)) ≡ false → contains occ_cmp after y ≡ false
    leads x y k false p b q false s h m = old x y k p s (same_occ n x) refl
    leads x y k false p b q true s h m = absurd cc
    leads x y k true p true q true s h m = absurd cc
    leads x y k true p true q false s h m = absurd cc
    leads x y k true p false q c s h m = absurd cc

-- nothing is left: outside is what links join but for the class
pub walk_done : (ls : List Link) (o : Occ) (outside : BTreeSet Occ) → IsWalk ls o outside [] → (x : Occ) → is_joined ls x ≡ true → contains occ_cmp outside x ≡ not (is_member (class_of ls o) x)
walk_done ls o outside w x j = by_test (contains occ_cmp outside x) refl (is_member (class_of ls o) x) refl
  where
    is_false : (b : Bool) → not b ≡ true → b ≡ false
    is_false true h = absurd cc
    is_false false h = refl

    leads : (y z : Occ) → IsWay ls y z → not (contains occ_cmp outside y) ≡ true → not (contains occ_cmp outside z) ≡ true
    leads y z k h = ap not (w.gone y z k (is_false (contains occ_cmp outside y) h) refl)

    alike : (g : Source) (t : Occ) → ((a : Arrow) → IsIn a (ways_across g t) → IsWay ls a.binder a.target) → HasBothOrNone (λ (y : Occ). not (contains occ_cmp outside y)) g t
    alike (At p) t h = same_test (not (contains occ_cmp outside p)) (not (contains occ_cmp outside t)) (leads p t (h (record { binder = p; target = t }) (inl refl))) (leads t p (h (record { binder = t; target = p }) (inr (inl refl))))
    alike (StandardName s) t h = tt

    closed : IsClosed ls (λ (y : Occ). not (contains occ_cmp outside y))
    closed l i = alike l.origin l.target (λ a k. way_there ls l a i k)

    by_test : (a : Bool) → contains occ_cmp outside x ≡ a → (b : Bool) → is_member (class_of ls o) x ≡ b → a ≡ not b
    by_test true p true q = let h : not (contains occ_cmp outside x) ≡ true = class_least ls o (λ (y : Occ). not (contains occ_cmp outside y)) (ap not w.start) closed x q in let z : not (contains occ_cmp outside x) ≡ false = ap not p in absurd cc
    by_test true p false q = refl
    by_test false p true q = refl
    by_test false p false q = let h : is_member (class_of ls o) x ≡ true = w.sound x j p in absurd cc
