-- Entries that are put together stand for some, and each name stands once among them.
use Rattle.std.proofs.Common.{◌≡◌, ℕ, suc, Bool, true, false, cond, List, [], ◌∷◌, map, Option, Some, None, refl, sym, ap, ◌∙◌, subst}
use Rattle.std.specs.Prelude.{◌||◌, reverse}
use Rattle.std.specs.Option.{is_some, option_map}
use Rattle.std.specs.Str.{bytes_eq}
use Rattle.scheme_model.specs.Entries as model
use Rattle.syntax_tree.specs.Names.{Names}
use Rattle.syntax_tree.specs.declared.units.Entry.{Entry}
use Rattle.syntax_tree.proofs.InternLaws.{bytes_told, bytes_itself}
use Rattle.import_sets.specs.declared.gather.Group.{Group}
use Rattle.import_sets.specs.Sets.{TellsApart}
use Rattle.import_sets.specs.Given.{Gathered, finished, has_name, join, in_front, with_more, alone, taken, take_in, take_all, place_of, same_meaning}
use Rattle.import_sets.proofs.GatherLaws.{gather_stands}
use Rattle.import_sets.proofs.ReachLaws.{or_none}
use Rattle.unit_imports.specs.Joining.{has_group, AreApart, GroupsMean}
use Rattle.unit_imports.specs.EntriesMeant.{HaveMeaning, EachOnce}

-- ---- they stand for some

pub all_mean : (names : Names) → TellsApart names → (g : Gathered) (es : List Entry) → GroupsMean names g.groups → HaveMeaning names es → GroupsMean names (take_all g es).groups
all_mean names apart g es h k = let r = gather_stands names apart es k.0 k.1 g h.0 h.1 (reverse g.clashes) refl in ((model.gather h.0 k.0 (reverse g.clashes)).0, r.groups)

-- ---- each name once

again : (a b : Bool) → (a || b) ≡ ((a || b) || a)
again true b = refl
again false true = refl
again false false = refl

apart_turned : (s t : List ℕ) → bytes_eq s t ≡ false → bytes_eq t s ≡ false
apart_turned s t h = go (bytes_eq t s) refl
  where
    go : (b : Bool) → bytes_eq t s ≡ b → bytes_eq t s ≡ false
    go false e = e
    go true e = let z : true ≡ false = sym (bytes_itself s) ∙ ap (bytes_eq s) (sym (bytes_told t s e)) ∙ h in absurd cc

or_joined : (a b c : Bool) → (a || (b || c)) ≡ ((a || b) || c)
or_joined true b c = refl
or_joined false b c = refl

pub record JoinedApart (gs hs : List Group) (e : Entry) : Type 0 where
  pub apart : AreApart hs
  pub members : (s : List ℕ) → has_group hs s ≡ (has_group gs s || bytes_eq e.name s)

join_apart : (gs : List Group) (e : Entry) (hs : List Group) → join gs e ≡ Some hs → AreApart gs → JoinedApart gs hs e
join_apart [] e hs h a = subst (λ (xs : List Group). JoinedApart [] xs e) (same (alone e ∷ []) hs h) (record { apart = (refl, tt); members = λ s. or_none (bytes_eq e.name s) })
  where
    same : (xs ys : List Group) → Some xs ≡ Some ys → xs ≡ ys
    same xs ys k = cc
join_apart (g ∷ gs) e hs h a = go (λ xs r. join_apart gs e xs r a.1) (bytes_eq g.entry.name e.name) refl (same_meaning g.entry.meaning e.meaning) (join gs e) refl h
  where
    same : (xs ys : List Group) → Some xs ≡ Some ys → xs ≡ ys
    same xs ys k = cc

    both : bytes_eq g.entry.name e.name ≡ true → JoinedApart (g ∷ gs) (with_more g e ∷ gs) e
    both p = record {
      apart = a;
      members = λ s. again (bytes_eq g.entry.name s) (has_group gs s) ∙ ap (λ (t : List ℕ). (bytes_eq g.entry.name s || has_group gs s) || bytes_eq t s) (bytes_told g.entry.name e.name p);
    }

    front : bytes_eq g.entry.name e.name ≡ false → (xs : List Group) → JoinedApart gs xs e → JoinedApart (g ∷ gs) (g ∷ xs) e
    front p xs k = record {
      apart = (k.members g.entry.name ∙ (λ j. a.0 j || apart_turned g.entry.name e.name p j), k.apart);
      members = λ s. ap (λ (b : Bool). bytes_eq g.entry.name s || b) (k.members s) ∙ or_joined (bytes_eq g.entry.name s) (has_group gs s) (bytes_eq e.name s);
    }

    go : ((xs : List Group) → join gs e ≡ Some xs → JoinedApart gs xs e) → (b : Bool) → bytes_eq g.entry.name e.name ≡ b → (m : Bool) → (o : Option (List Group)) → join gs e ≡ o → cond b (cond m (Some (with_more g e ∷ gs)) None) (in_front g o) ≡ Some hs → JoinedApart (g ∷ gs) hs e
    go more true p true o r k = subst (λ (xs : List Group). JoinedApart (g ∷ gs) xs e) (same (with_more g e ∷ gs) hs k) (both p)
    go more true p false o r k = absurd cc
    go more false p m None r k = absurd cc
    go more false p m (Some xs) r k = subst (λ (ys : List Group). JoinedApart (g ∷ gs) ys e) (same (g ∷ xs) hs k) (front p xs (more xs r))

one_apart : (g : Gathered) (e : Entry) → AreApart g.groups → AreApart (take_in g e).groups
one_apart g e a = go (join g.groups e) refl
  where
    go : (o : Option (List Group)) → join g.groups e ≡ o → AreApart (taken g e o).groups
    go None r = a
    go (Some hs) r = (join_apart g.groups e hs r a).apart

pub all_apart : (g : Gathered) (es : List Entry) → AreApart g.groups → AreApart (take_all g es).groups
all_apart g [] a = a
all_apart g (e ∷ es) a = all_apart (take_in g e) es (one_apart g e a)

-- ---- names of what is put together

pub finished_names : (gs : List Group) (s : List ℕ) → has_name (map finished gs) s ≡ has_group gs s
finished_names [] s = refl
finished_names (g ∷ gs) s = ap (λ (b : Bool). bytes_eq g.entry.name s || b) (finished_names gs s)

pub finished_once : (gs : List Group) → AreApart gs → EachOnce (map finished gs)
finished_once [] a = tt
finished_once (g ∷ gs) a = (finished_names gs g.entry.name ∙ a.0, finished_once gs a.1)

pub place_there : (gs : List Group) (s : List ℕ) → is_some (place_of gs s) ≡ has_group gs s
place_there [] s = refl
place_there (g ∷ gs) s = go (place_there gs s) (bytes_eq g.entry.name s)
  where
    more : (o : Option ℕ) → is_some (option_map suc o) ≡ is_some o
    more None = refl
    more (Some n) = refl

    go : is_some (place_of gs s) ≡ has_group gs s → (b : Bool) → is_some (cond b (Some 0) (option_map suc (place_of gs s))) ≡ (b || has_group gs s)
    go behind true = refl
    go behind false = more (place_of gs s) ∙ behind
