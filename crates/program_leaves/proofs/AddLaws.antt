-- What was added to a list, one thing after another.
use Rattle.std.proofs.Common.{◌≡◌, ℕ, ◌+◌, List, [], ◌∷◌, ◌++◌, refl, sym, ap, ◌∙◌, subst, append_assoc}
use Rattle.std.proofs.lemmas.List.{append-nil}
use Rattle.scheme_model.specs.Trees.{Tree, Trees, no_trees, tree}
use Rattle.scheme_model.specs.Matching.{behind}
use Rattle.scheme_model.specs.Ident.{Ident as Identifier}
use Rattle.core_tree.specs.Names.{AllMatch}
use Rattle.program_leaves.specs.Adds.{Adds}

module _ {X Y : Type 0} (P : X → Y → Type 0) where
  pub both_match : (ns ms : List X) (ks ls : List Y) → AllMatch P ns ks → AllMatch P ms ls → AllMatch P (ns ++ ms) (ks ++ ls)
  both_match [] ms [] ls h g = g
  both_match [] ms (k ∷ ks) ls h g = absurd h
  both_match (n ∷ ns) ms [] ls h g = absurd h
  both_match (n ∷ ns) ms (k ∷ ks) ls h g = (h.0, both_match ns ms ks ls h.1 g)

  pub adds_none : (old : List X) → Adds P old old []
  adds_none old = record { more = []; added = sym (append-nil old); match = tt }

  pub adds_one : (old new : List X) (n : X) (l : Y) → new ≡ old ++ n ∷ [] → P n l → Adds P old new (l ∷ [])
  adds_one old new n l e is = record { more = n ∷ []; added = e; match = (is, tt) }

  pub adds_both : (old mid new : List X) (ks ls : List Y) → Adds P old mid ks → Adds P mid new ls → Adds P old new (ks ++ ls)
  adds_both old mid new ks ls p q = record {
    more = p.more ++ q.more;
    added = q.added ∙ ap (λ (x : List X). x ++ q.more) p.added ∙ append_assoc old p.more q.more;
    match = both_match p.more q.more ks ls p.match q.match;
  }

  pub adds_same : (old new : List X) (ks ls : List Y) → ks ≡ ls → Adds P old new ks → Adds P old new ls
  adds_same old new ks ls e h = subst (Adds P old new) e h

  -- nothing comes after
  pub adds_last : (old new : List X) (ks : List Y) → Adds P old new ks → Adds P old new (ks ++ [])
  adds_last old new ks h = adds_same old new ks (ks ++ []) (sym (append-nil ks)) h

  -- all that was added where there was nothing
  pub all_match : (old new : List X) (ls : List Y) → old ≡ [] → Adds P old new ls → AllMatch P new ls
  all_match old new ls e h = subst (λ (x : List X). AllMatch P x ls) (sym (h.added ∙ ap (λ (x : List X). x ++ h.more) e)) h.match

  -- ---- rows

  -- what a row gives
  module _ (all : Trees Identifier → List Y) where
    -- that of the trees from a place up to another
    pub record UpTo (old new : List X) (ts : Trees Identifier) (from k : ℕ) : Type 0 where
      pub so_far : List Y
      pub adds : Adds P old new so_far
      pub whole : so_far ++ all (behind k ts) ≡ all (behind from ts)

    pub up_none : (old : List X) (ts : Trees Identifier) (from : ℕ) → UpTo old old ts from from
    up_none old ts from = record { so_far = []; adds = adds_none old; whole = refl }

    pub up_more : (here : List Y) (old mid new : List X) (ts : Trees Identifier) (from k : ℕ) (t : Tree Identifier) → UpTo old mid ts from k → behind k ts ≡ tree t (behind (k + 1) ts) →
        all (tree t (behind (k + 1) ts)) ≡ here ++ all (behind (k + 1) ts) → Adds P mid new here → UpTo old new ts from (k + 1)
    up_more here old mid new ts from k t p e step h = record {
      so_far = p.so_far ++ here;
      adds = adds_both old mid new p.so_far here p.adds h;
      whole = append_assoc p.so_far here (all (behind (k + 1) ts)) ∙ ap (λ (x : List Y). p.so_far ++ x) (sym (ap all e ∙ step)) ∙ p.whole;
    }

    pub up_all : (old new : List X) (ts : Trees Identifier) (from k : ℕ) → UpTo old new ts from k → behind k ts ≡ no_trees → all no_trees ≡ [] → Adds P old new (all (behind from ts))
    up_all old new ts from k p e stop =
        adds_same old new p.so_far (all (behind from ts)) (sym (append-nil p.so_far) ∙ ap (λ (x : List Y). p.so_far ++ x) (sym (ap all e ∙ stop)) ∙ p.whole) p.adds

-- ---- what is past, and what is still to come

pub record Past {X Y : Type 0} (P : X → Y → Type 0) (left : List X) (ys : List Y) (Q : List Y → Type 0) : Type 0 where
  pub done : List Y
  pub rest : List Y
  pub whole : ys ≡ done ++ rest
  pub still : AllMatch P left rest
  pub holds : Q done

-- the first part of what matches two lists
pub record Parted {X Y : Type 0} (P : X → Y → Type 0) (xs zs : List X) (ys : List Y) : Type 0 where
  pub first : List Y
  pub second : List Y
  pub whole : ys ≡ first ++ second
  pub one : AllMatch P xs first
  pub other : AllMatch P zs second

pub part_match : {X Y : Type 0} (P : X → Y → Type 0) (xs zs : List X) (ys : List Y) → AllMatch P (xs ++ zs) ys → Parted P xs zs ys
part_match P [] zs ys h = record { first = []; second = ys; whole = refl; one = tt; other = h }
part_match P (x ∷ xs) zs [] h = absurd h
part_match P (x ∷ xs) zs (y ∷ ys) h =
    let r = part_match P xs zs ys h.1 in
    record { first = y ∷ r.first; second = r.second; whole = ap (λ q. y ∷ q) r.whole; one = (h.0, r.one); other = r.other }

pub past_none : {X Y : Type 0} (P : X → Y → Type 0) (xs : List X) (ys : List Y) (Q : List Y → Type 0) → AllMatch P xs ys → Q [] → Past P xs ys Q
past_none P xs ys Q h q = record { done = []; rest = ys; whole = refl; still = h; holds = q }

pub past_more : {X Y : Type 0} (P : X → Y → Type 0) (xs zs : List X) (ys : List Y) (Q R : List Y → Type 0) (p : Past P (xs ++ zs) ys Q) → ((r : Parted P xs zs p.rest) → R (p.done ++ r.first)) → Past P zs ys R
past_more P xs zs ys Q R p f =
    let r = part_match P xs zs p.rest p.still in
    record {
      done = p.done ++ r.first;
      rest = r.second;
      whole = p.whole ∙ ap (λ q. p.done ++ q) r.whole ∙ sym (append_assoc p.done r.first r.second);
      still = r.other;
      holds = f r;
    }

pub past_all : {X Y : Type 0} (P : X → Y → Type 0) (ys : List Y) (Q : List Y → Type 0) → Past P [] ys Q → Q ys
past_all {Y = Y} P ys Q p = by_rest p.rest refl p.still
  where
    by_rest : (zs : List Y) → p.rest ≡ zs → AllMatch P [] zs → Q ys
    by_rest [] e h = subst Q (sym (p.whole ∙ ap (λ q. p.done ++ q) e ∙ append-nil p.done)) p.holds
    by_rest (z ∷ zs) e h = absurd h
