-- Entries of the code, put together, stand for the entries put together; and where a name stands among them.
use Rattle.std.proofs.Common.{◌≡◌, ℕ, Bool, true, false, cond, List, [], ◌∷◌, ◌++◌, map, Option, Some, None, refl, sym, ◌∙◌, subst}
use Rattle.std.specs.Prelude.{reverse}
use Rattle.std.specs.Str.{bytes_eq}
use Rattle.std.proofs.lemmas.List.{reverse-append}
use Rattle.scheme_model.specs.Meaning.{Meaning, same_meaning}
use Rattle.scheme_model.specs.Entries.{Entry, is_below, Joined, added, clashing, join_entry, gather, least, origins_of_both}
use Rattle.syntax_tree.specs.Names.{Names}
use Rattle.syntax_tree.specs.Meant.{AreOrigins, IsEntry, AreEntries}
use Rattle.syntax_tree.specs.declared.units.Origin as code_origin
use Rattle.syntax_tree.specs.declared.units.Entry as code
use Rattle.import_sets.specs.declared.gather.Group.{Group}
use Rattle.import_sets.specs.Sets.{TellsApart}
use Rattle.import_sets.specs.Given as given
use Rattle.import_sets.proofs.MeaningLaws.{meanings_same, meaning_told}
use Rattle.import_sets.proofs.OriginLaws.{both_stand, both-append}

-- ---- one entry more

abbrev JoinedAs : Names → Option (List Group) → Joined → Type 0
JoinedAs names (Some hs) (added ds) = AreEntries names (map given.finished hs) ds
JoinedAs names (Some hs) clashing = ⊥
JoinedAs names None (added ds) = ⊥
JoinedAs names None clashing = Unit {0}

with_more_stands : (names : Names) (g : Group) (e : code.Entry) (x d : Entry) → IsEntry names (given.finished g) x → IsEntry names e d → x.meaning ≡ d.meaning →
    IsEntry names (given.finished (given.with_more g e)) (record { name = x.name; meaning = x.meaning; origins = origins_of_both x.origins d.origins })
with_more_stands names g e x d h k same = record {
  name = h.name;
  meaning = h.meaning;
  origins =
      subst (λ (os : List code_origin.Origin). AreOrigins x.meaning os (origins_of_both x.origins d.origins)) (sym (both-append g.entry.origins g.more e.origins))
      (both_stand x.meaning (given.both g.entry.origins g.more) e.origins x.origins d.origins h.origins (subst (λ (m : Meaning). AreOrigins m e.origins d.origins) (sym same) k.origins));
}

join_stands : (names : Names) → TellsApart names → (gs : List Group) (e : code.Entry) (ds : List Entry) (d : Entry) → AreEntries names (map given.finished gs) ds → IsEntry names e d →
    JoinedAs names (given.join gs e) (join_entry ds d)
join_stands names apart [] e [] d h k = (k, tt)
join_stands names apart [] e (x ∷ ds) d h k = absurd h
join_stands names apart (g ∷ gs) e [] d h k = absurd h
join_stands names apart (g ∷ gs) e (x ∷ ds) d h k =
    go (bytes_eq x.name d.name) refl (same_meaning x.meaning d.meaning) refl (given.join gs e) refl (join_entry ds d) refl (join_stands names apart gs e ds d h.1 k)
  where
    names_same : bytes_eq g.entry.name e.name ≡ bytes_eq x.name d.name
    names_same = λ j. bytes_eq (h.0.name j) (k.name j)

    means_same : given.same_meaning g.entry.meaning e.meaning ≡ same_meaning x.meaning d.meaning
    means_same = meanings_same names apart g.entry.meaning e.meaning x.meaning d.meaning h.0.meaning k.meaning

    go : (a : Bool) → bytes_eq x.name d.name ≡ a → (b : Bool) → same_meaning x.meaning d.meaning ≡ b → (o : Option (List Group)) → given.join gs e ≡ o → (w : Joined) → join_entry ds d ≡ w → JoinedAs names o w →
        JoinedAs names (given.join (g ∷ gs) e) (join_entry (x ∷ ds) d)
    go true p true q o r w t i = rw (names_same ∙ p, p, means_same ∙ q, q) (with_more_stands names g e x d h.0 k (meaning_told x.meaning d.meaning q), h.1)
    go true p false q o r w t i = rw (names_same ∙ p, p, means_same ∙ q, q) tt
    go false p b q (Some hs) r (added cs) t i = rw (names_same ∙ p, p, r, t) (h.0, i)
    go false p b q (Some hs) r clashing t i = absurd i
    go false p b q None r (added cs) t i = absurd i
    go false p b q None r clashing t i = rw (names_same ∙ p, p, r, t) tt

-- ---- all entries

pub record GatheredAs (names : Names) (g : given.Gathered) (p : List Entry × List (List ℕ)) : Type 0 where
  pub groups : AreEntries names (map given.finished g.groups) p.0
  pub clashes : reverse g.clashes ≡ p.1

pub gather_stands : (names : Names) → TellsApart names → (es : List code.Entry) (rest : List Entry) → AreEntries names es rest → (g : given.Gathered) (ds : List Entry) → AreEntries names (map given.finished g.groups) ds →
    (clashes : List (List ℕ)) → reverse g.clashes ≡ clashes → GatheredAs names (given.take_all g es) (gather ds rest clashes)
gather_stands names apart [] [] h g ds k clashes e = record { groups = k; clashes = e }
gather_stands names apart [] (d ∷ rest) h g ds k clashes e = absurd h
gather_stands names apart (x ∷ es) [] h g ds k clashes e = absurd h
gather_stands names apart (x ∷ es) (d ∷ rest) h g ds k clashes e =
    go (given.join g.groups x) refl (join_entry ds d) refl (join_stands names apart g.groups x ds d k h.0) (gather_stands names apart es rest h.1)
  where
    go : (o : Option (List Group)) → given.join g.groups x ≡ o → (w : Joined) → join_entry ds d ≡ w → JoinedAs names o w →
        ((g : given.Gathered) (ds : List Entry) → AreEntries names (map given.finished g.groups) ds → (clashes : List (List ℕ)) → reverse g.clashes ≡ clashes → GatheredAs names (given.take_all g es) (gather ds rest clashes)) →
        GatheredAs names (given.take_all g (x ∷ es)) (gather ds (d ∷ rest) clashes)
    go (Some hs) r (added cs) t i more = rw (r, t) (more (record { groups = hs; clashes = g.clashes }) cs i clashes e)
    go (Some hs) r clashing t i more = absurd i
    go None r (added cs) t i more = absurd i
    go None r clashing t i more =
        rw (r, t) (more (record { groups = g.groups; clashes = g.clashes ++ x.name ∷ [] }) ds k (d.name ∷ clashes) (reverse-append g.clashes (x.name ∷ []) ∙ (λ j. h.0.name j ∷ e j)))

-- ---- what is told of them

pub least_same : (s : List ℕ) (ss : List (List ℕ)) → given.least s ss ≡ least s ss
least_same s [] = refl
least_same s (t ∷ ss) = least_same (cond (is_below t s) t s) ss
