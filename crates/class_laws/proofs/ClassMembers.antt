-- A class is what links join to an occurrence. Where each link's origin is the target of some link, none of it lacks a prefix.
use Rattle.std.proofs.Common.{◌≡◌, ◌⊎◌, inl, inr, ℕ, zero, suc, List, [], ◌∷◌, ◌++◌, filter, length, Bool, true, false, not, cond, refl, sym, ap, ◌∙◌, subst, arith}
use Rattle.std.specs.Prelude.{◌&&◌, nat_lt}
use Rattle.std.proofs.lemmas.Bool.{lt-ltb, or_cases}
use Rattle.scheme_model.specs.declared.Occ.{Occ}
use Rattle.scheme_model.specs.Entries.{Source, At, StandardName, same_occ}
use Rattle.scheme_model.specs.Spelling.{Link, is_place, is_end, is_joined, is_member, with_member, across, joined, closed, class_of, has_prefix, prefixes_of}
use Rattle.model_laws.proofs.FrameAsks.{AllOf}
use Rattle.program_leaves.specs.Members.{IsIn}
use Rattle.program_leaves.proofs.KeyLaws.{one_occ}
use Rattle.arrow_index.specs.Classes.{HasBothOrNone, IsClosed}
use Rattle.arrow_index.proofs.ClassLaws.{or_left, or_right, same_test, itself as occ_itself, member_in, in_member, class_holds, class_closed, class_least}
use Rattle.text_edits.specs.Members.{is_part}
use Rattle.class_laws.specs.Joined.{HasEnds, AreJoined, itself, over}
use Rattle.class_laws.proofs.EntryOrigins.{SourceHas}
use Rattle.class_laws.proofs.LinkOrigins.{IsTarget, LinkHas}

-- ---- what is joined is a member

module _ (ls : List Link) (o : Occ) where
  abbrev member : Occ → Bool
  member = is_member (class_of ls o)

  step_member : (l : Link) (p q : Occ) → IsIn l ls → HasEnds l p q → member p ≡ true → member q ≡ true
  step_member l p q i (inl e) h = ap member (sym e.1) ∙ sym (subst (λ (s : Source). HasBothOrNone member s l.target) e.0 (class_closed ls o l i)) ∙ h
  step_member l p q i (inr e) h = subst (λ (s : Source). HasBothOrNone member s l.target) e.0 (class_closed ls o l i) ∙ ap member e.1 ∙ h

  pub joined_member : (q : Occ) → AreJoined ls o q → member q ≡ true
  joined_member _ itself = class_holds ls o
  joined_member _ (over l p q h i j) = step_member l p q i j (joined_member p h)

  -- ---- a member is joined

  AllJoined : List Occ → Type 0
  AllJoined ms = (q : Occ) → IsIn q ms → AreJoined ls o q

  with_joined : (q : Occ) (ms : List Occ) → AreJoined ls o q → AllJoined ms → AllJoined (with_member q ms)
  unfolding AllJoined
  with_joined q ms here h = go (is_member ms q)
    where
      go : (b : Bool) → (p : Occ) → IsIn p (cond b ms (q ∷ ms)) → AreJoined ls o p
      go true p i = h p i
      go false p (inl e) = subst (AreJoined ls o) e here
      go false p (inr i) = h p i

  across_joined : (l : Link) (s : Source) → l.origin ≡ s → IsIn l ls → (ms : List Occ) → AllJoined ms → AllJoined (across s l.target ms)
  unfolding AllJoined
  across_joined l (StandardName s) e i ms h = h
  across_joined l (At p) e i ms h = go (is_member ms p) refl (is_member ms l.target) refl
    where
      go : (a : Bool) → is_member ms p ≡ a → (b : Bool) → is_member ms l.target ≡ b → AllJoined (cond a (with_member l.target ms) (cond b (with_member p ms) ms))
      go true f b g = with_joined l.target ms (over l p l.target (h p (member_in p ms f)) i (inl (e, refl))) h
      go false f true g = with_joined p ms (over l l.target p (h l.target (member_in l.target ms g)) i (inr (e, refl))) h
      go false f false g = h

  round_joined : (us : List Link) → ((l : Link) → IsIn l us → IsIn l ls) → (ms : List Occ) → AllJoined ms → AllJoined (joined us ms)
  round_joined [] among ms h = h
  round_joined (l ∷ us) among ms h = round_joined us (λ m i. among m (inr i)) (across l.origin l.target ms) (across_joined l l.origin refl (among l (inl refl)) ms h)

  rounds_joined : (n : ℕ) (ms : List Occ) → AllJoined ms → AllJoined (closed ls n ms)
  rounds_joined zero ms h = h
  rounds_joined (suc n) ms h = rounds_joined n (joined ls ms) (round_joined ls (λ l i. i) ms h)

  pub all_joined : (q : Occ) → IsIn q (class_of ls o) → AreJoined ls o q
  unfolding AllJoined
  all_joined = rounds_joined (length ls) (o ∷ []) first
    where
      first : (q : Occ) → IsIn q (o ∷ []) → AreJoined ls o q
      first q (inl e) = subst (AreJoined ls o) e itself
      first q (inr i) = absurd i

-- ---- prefixes

-- those that were seen stay
some_stays : (ls : List Link) (o : Occ) (seen : List (List ℕ)) → nat_lt 0 (length seen) ≡ true → nat_lt 0 (length (prefixes_of ls o seen)) ≡ true
some_stays [] o seen h = h
some_stays (l ∷ ls) o seen h = go (λ ts k. some_stays ls o ts k) (same_occ l.target o && not (has_prefix seen l.prefix))
  where
    longer : (ts : List (List ℕ)) → nat_lt 0 (length (ts ++ l.prefix ∷ [])) ≡ true
    longer [] = refl
    longer (t ∷ ts) = lt-ltb 0 (length (t ∷ ts ++ l.prefix ∷ [])) (omega arith)

    go : ((ts : List (List ℕ)) → nat_lt 0 (length ts) ≡ true → nat_lt 0 (length (prefixes_of ls o ts)) ≡ true) → (b : Bool) →
        nat_lt 0 (length (cond b (prefixes_of ls o (seen ++ l.prefix ∷ [])) (prefixes_of ls o seen))) ≡ true
    go more true = more (seen ++ l.prefix ∷ []) (longer seen)
    go more false = more seen h

-- what a link leads to has a prefix
target_part : (ls : List Link) (q : Occ) → IsTarget ls q → is_part ls q ≡ true
target_part [] q h = absurd h.1
target_part (m ∷ ls) q h = go (target_part ls q) (same_occ m.target q) refl h.1
  where
    go : (IsTarget ls q → is_part ls q ≡ true) → (b : Bool) → same_occ m.target q ≡ b → (m ≡ h.0) ⊎ IsIn h.0 ls → nat_lt 0 (length (cond (b && true) (prefixes_of ls q (m.prefix ∷ [])) (prefixes_of ls q []))) ≡ true
    go more true e i = some_stays ls q (m.prefix ∷ []) refl
    go more false e (inl s) = let k : true ≡ false = sym (occ_itself q) ∙ ap (λ (x : Occ). same_occ x q) (sym (ap (λ (l : Link). l.target) s ∙ h.2)) ∙ e in absurd cc
    go more false e (inr i) = more (h.0, i, h.2)

-- and what none leads to hasn't
part_target : (ls : List Link) (q : Occ) → is_part ls q ≡ true → IsTarget ls q
part_target [] q h = absurd cc
part_target (m ∷ ls) q h = go (part_target ls q) (same_occ m.target q) refl h
  where
    go : (is_part ls q ≡ true → IsTarget ls q) → (b : Bool) → same_occ m.target q ≡ b → nat_lt 0 (length (cond (b && true) (prefixes_of ls q (m.prefix ∷ [])) (prefixes_of ls q []))) ≡ true → IsTarget (m ∷ ls) q
    go more true e k = (m, inl refl, one_occ m.target q e)
    go more false e k = let t = more k in (t.0, inr t.1, t.2)

-- ---- where each origin is a target

joined_some : (q : Occ) (ls : List Link) → is_joined ls q ≡ true → (l : Link) × IsIn l ls × (is_end q l ≡ true)
joined_some q [] h = absurd cc
joined_some q (m ∷ ls) h = go (joined_some q ls) (or_cases (is_end q m) (is_joined ls q) h)
  where
    go : (is_joined ls q ≡ true → (l : Link) × IsIn l ls × (is_end q l ≡ true)) → (is_end q m ≡ true) ⊎ (is_joined ls q ≡ true) → (l : Link) × IsIn l (m ∷ ls) × (is_end q l ≡ true)
    go more (inl e) = (m, inl refl, e)
    go more (inr k) = let r = more k in (r.0, inr r.1, r.2)

some_joined : (q : Occ) (ls : List Link) (l : Link) → IsIn l ls → is_end q l ≡ true → is_joined ls q ≡ true
some_joined q [] l i e = absurd i
some_joined q (m ∷ ls) l (inl s) e = or_left (is_end q m) (is_joined ls q) (ap (is_end q) s ∙ e)
some_joined q (m ∷ ls) l (inr i) e = or_right (is_end q m) (is_joined ls q) (some_joined q ls l i e)

all_among : {X : Type 0} (P : X → Type 0) (xs : List X) (x : X) → AllOf P xs → IsIn x xs → P x
all_among P [] x h i = absurd i
all_among P (y ∷ ys) x h (inl e) = subst P e h.0
all_among P (y ∷ ys) x h (inr i) = all_among P ys x h.1 i

filter_all : {X : Type 0} (f : X → Bool) (xs : List X) → ((x : X) → IsIn x xs → f x ≡ true) → filter f xs ≡ xs
filter_all f [] h = refl
filter_all f (x ∷ xs) h = ap (λ b. cond b (x ∷ filter f xs) (filter f xs)) (h x (inl refl)) ∙ ap (λ ys. x ∷ ys) (filter_all f xs (λ y i. h y (inr i)))

filter_none : {X : Type 0} (f : X → Bool) (xs : List X) → ((x : X) → IsIn x xs → f x ≡ false) → filter f xs ≡ []
filter_none f [] h = refl
filter_none f (x ∷ xs) h = ap (λ b. cond b (x ∷ filter f xs) (filter f xs)) (h x (inl refl)) ∙ filter_none f xs (λ y i. h y (inr i))

pub of_filter : {X : Type 0} (f : X → Bool) (x : X) (xs : List X) → IsIn x (filter f xs) → IsIn x xs
of_filter f x [] h = absurd h
of_filter f x (y ∷ ys) h = go (of_filter f x ys) (f y) h
  where
    go : (IsIn x (filter f ys) → IsIn x ys) → (b : Bool) → IsIn x (cond b (y ∷ filter f ys) (filter f ys)) → IsIn x (y ∷ ys)
    go more true (inl e) = inl e
    go more true (inr i) = inr (more i)
    go more false i = inr (more i)

not_false : (b : Bool) → not b ≡ true → b ≡ false
not_false false h = refl
not_false true h = cc

module _ (ls : List Link) (lead : AllOf (LinkHas (IsTarget ls)) ls) where
  end_part : (q : Occ) (l : Link) → IsIn l ls → is_end q l ≡ true → is_part ls q ≡ true
  end_part q l i e = go (or_cases (same_occ l.target q) (is_place l.origin q) e)
    where
      origin : (s : Source) → SourceHas (IsTarget ls) s → is_place s q ≡ true → is_part ls q ≡ true
      origin (At p) t k = ap (is_part ls) (sym (one_occ p q k)) ∙ target_part ls p t
      origin (StandardName s) t k = absurd cc

      go : (same_occ l.target q ≡ true) ⊎ (is_place l.origin q ≡ true) → is_part ls q ≡ true
      go (inl k) = target_part ls q (l, i, one_occ l.target q k)
      go (inr k) = origin l.origin (all_among (LinkHas (IsTarget ls)) ls l lead i) k

  joined_part : (q : Occ) → is_joined ls q ≡ true → is_part ls q ≡ true
  joined_part q h = let r = joined_some q ls h in end_part q r.0 r.1 r.2

  part_joined : (q : Occ) → is_part ls q ≡ true → is_joined ls q ≡ true
  part_joined q h = let t = part_target ls q h in some_joined q ls t.0 t.1 (or_left (same_occ t.0.target q) (is_place t.0.origin q) (ap (λ (x : Occ). same_occ x q) t.2 ∙ occ_itself q))

  pub parts_are_joined : (q : Occ) → is_part ls q ≡ is_joined ls q
  parts_are_joined q = same_test (is_part ls q) (is_joined ls q) (part_joined q) (joined_part q)

  parts_closed : IsClosed ls (is_part ls)
  parts_closed l i = go l.origin (all_among (LinkHas (IsTarget ls)) ls l lead i)
    where
      go : (s : Source) → SourceHas (IsTarget ls) s → HasBothOrNone (is_part ls) s l.target
      go (At p) t = target_part ls p t ∙ sym (target_part ls l.target (l, i, refl))
      go (StandardName s) t = tt

  -- none is left out
  pub class_whole : (o : Occ) → is_joined ls o ≡ true → filter (is_part ls) (class_of ls o) ≡ class_of ls o
  class_whole o h = filter_all (is_part ls) (class_of ls o) (λ q i. class_least ls o (is_part ls) (joined_part o h) parts_closed q (in_member q (class_of ls o) i))

  -- what no link joins has none
  others_closed : IsClosed ls (λ (q : Occ). not (is_part ls q))
  others_closed l i = go l.origin (parts_closed l i)
    where
      go : (s : Source) → HasBothOrNone (is_part ls) s l.target → HasBothOrNone (λ (q : Occ). not (is_part ls q)) s l.target
      go (At p) t = ap not t
      go (StandardName s) t = tt

  pub class_none : (o : Occ) → is_joined ls o ≡ false → filter (is_part ls) (class_of ls o) ≡ []
  class_none o h =
      filter_none (is_part ls) (class_of ls o)
      (λ q i. not_false (is_part ls q) (class_least ls o (λ (p : Occ). not (is_part ls p)) (ap not (parts_are_joined o ∙ h)) others_closed q (in_member q (class_of ls o) i)))
