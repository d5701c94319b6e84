-- The unbound uses that the code finds are those of the definition.
use Rattle.std.proofs.Common.{◌≡◌, ℕ, suc, ◌+◌, ◌<◌, Bool, true, false, ◌⊎◌, inl, inr, List, [], ◌∷◌, ◌++◌, append-nil, append_assoc, length, take, get_or, map, Option, Some, None, Result, Ok, Err, refl, sym, ap, ◌∙◌, subst}
use Rattle.std.specs.List.{flat_map}
use Rattle.std.proofs.lemmas.Grind.{flat_map-append}
use Rattle.std.proofs.lemmas.List.{take_more, map_push}
use Rattle.std.proofs.lemmas.List.Folds.{flat_map-map}
use Rattle.std.specs.Option.{is_some}
use Rattle.scheme_model.specs.declared.Occ.{Occ}
use Rattle.scheme_model.specs.Trees.{Tree, map_tree}
use Rattle.scheme_model.specs.Ident.{symbol_of}
use Rattle.scheme_model.specs.Cores as cores
use Rattle.scheme_model.specs.Meaning as model
use Rattle.scheme_model.specs.Steps.{Broken}
use Rattle.scheme_model.specs.Order.{Counted}
use Rattle.scheme_model.specs.UnitExpansion.{Formed}
use Rattle.scheme_model.specs.Live as live
use Rattle.scheme_model.specs.Live.{CoreLeaf, leaves_of_parts, form_leaves, unit_leaves}
use Rattle.syntax_tree.specs.Meant.{IsMeaning}
use Rattle.syntax_tree.specs.declared.trees.Work.{Work}
use Rattle.syntax_tree.specs.declared.meaning.Meaning.{Meaning}
use Rattle.syntax_tree.specs.declared.meaning.Meaning.TheVariants as meaning
use Rattle.core_tree.specs.Names.{AllMatch, IsTarget}
use Rattle.core_tree.specs.Units.{FormsStand, IsBlank, IsExpanded, IsResult}
use Rattle.core_tree.specs.declared.cores.Target.{Target}
use Rattle.core_tree.specs.declared.traces.FormFault.{FormFault}
use Rattle.core_tree.specs.declared.units.ExpandedItem.{ExpandedItem}
use Rattle.core_tree.specs.declared.units.UnitForm as code_form
use Rattle.program_leaves.specs.Leaves.{Seen, seen_of, Binds, Uses, Assigns, Quoted, Holed, Defines, part_seen, items_seen, IsSeen, AreSeen}
use Rattle.program_leaves.specs.declared.leaves.Leaf.{Leaf}
use Rattle.program_leaves.proofs.LeafLaws.{parts_leaves}
use Rattle.program_leaves.proofs.QuotedLaws.{quoted_none}
use Rattle.program_findings.specs.Unbound.{free_as, free_use, free_leaf, free_uses, form_unbound, unbound_as, unbound_leaf, unbound_in, IsUnbound}

-- ---- lists, one behind the other

pub match_both : {X Y : Type 0} (P : X → Y → Type 0) (xs : List X) (ys : List Y) (vs : List X) (bs : List Y) → AllMatch P xs ys → AllMatch P vs bs → AllMatch P (xs ++ vs) (ys ++ bs)
match_both P [] [] vs bs h k = k
match_both P [] (y ∷ ys) vs bs h k = absurd h
match_both P (x ∷ xs) [] vs bs h k = absurd h
match_both P (x ∷ xs) (y ∷ ys) vs bs h k = (h.0, match_both P xs ys vs bs h.1 k)

in_both : (xs ys : List CoreLeaf) → unbound_in (xs ++ ys) ≡ unbound_in xs ++ unbound_in ys
in_both xs ys = flat_map-append unbound_leaf xs ys

none_quoted : {A : Type 0} (f : A → Bool) (t : Tree A) → unbound_in (live.name_places f t) ≡ []
none_quoted f t = quoted_none unbound_in in_both refl (λ o. refl) f t

-- ---- one leaf

module _ (work : Work) (unit form : ℕ) where
  used : (t : Target) (m : cores.Target) → IsTarget work.symbols unit form t m → AllMatch (IsUnbound work.symbols) (free_use t) (unbound_as m.meaning m.occ m)
  used t m h = subst (λ (o : Option Occ). AllMatch (IsUnbound work.symbols) (free_use t) (unbound_as m.meaning o m)) h.place (go t.meaning refl m.meaning refl t.occ h.meaning)
    where
      go : (a : Meaning) → t.meaning ≡ a → (b : model.Meaning) → m.meaning ≡ b → (o : Option Occ) → IsMeaning work.symbols unit form a b → AllMatch (IsUnbound work.symbols) (free_as a o t) (unbound_as b o m)
      go a p b q None k = tt
      go (meaning.Local n) p (model.Local v) q (Some o) k = tt
      go (meaning.Local n) p (model.Global u i) q (Some o) k = absurd cc
      go (meaning.Local n) p (model.Standard s) q (Some o) k = absurd cc
      go (meaning.Local n) p (model.Free s) q (Some o) k = absurd cc
      go (meaning.Global w n) p (model.Local v) q (Some o) k = absurd k
      go (meaning.Global w n) p (model.Global u i) q (Some o) k = tt
      go (meaning.Global w n) p (model.Standard s) q (Some o) k = absurd k
      go (meaning.Global w n) p (model.Free s) q (Some o) k = absurd k
      go (meaning.Standard n) p (model.Local v) q (Some o) k = absurd k
      go (meaning.Standard n) p (model.Global u i) q (Some o) k = absurd k
      go (meaning.Standard n) p (model.Standard s) q (Some o) k = tt
      go (meaning.Standard n) p (model.Free s) q (Some o) k = absurd k
      go (meaning.Free n) p (model.Local v) q (Some o) k = absurd k
      go (meaning.Free n) p (model.Global u i) q (Some o) k = absurd k
      go (meaning.Free n) p (model.Standard s) q (Some o) k = absurd k
      go (meaning.Free n) p (model.Free s) q (Some o) k = (record { ident = h.ident; meaning = λ u f. rw (p, q) k; place = h.place }, tt)

  one_leaf : (x : Seen) (ls : List CoreLeaf) → IsSeen work unit form x ls → AllMatch (IsUnbound work.symbols) (free_leaf x) (unbound_in ls)
  one_leaf (Binds local b) ls h = rw (ap unbound_in h.1) tt
  one_leaf (Uses t) ls h = subst (AllMatch (IsUnbound work.symbols) (free_use t)) (sym (ap unbound_in h.1 ∙ append-nil (unbound_as h.0.meaning h.0.occ h.0))) (used t h.0 h.2)
  one_leaf (Assigns t) ls h = subst (AllMatch (IsUnbound work.symbols) (free_use t)) (sym (ap unbound_in h.1 ∙ append-nil (unbound_as h.0.meaning h.0.occ h.0))) (used t h.0 h.2)
  one_leaf (Quoted n) ls h = rw (ap unbound_in h.2 ∙ none_quoted live.any_name (map_tree symbol_of h.0)) tt
  one_leaf (Holed n places) ls h = rw (ap unbound_in h.2 ∙ none_quoted live.no_hole h.0) tt
  one_leaf (Defines d) ls h = rw (ap unbound_in h.1) tt

  all_leaves : (xs : List Seen) (ls : List CoreLeaf) → AreSeen work unit form xs ls → AllMatch (IsUnbound work.symbols) (free_uses xs) (unbound_in ls)
  all_leaves [] ls h = rw (ap unbound_in h) tt
  all_leaves (x ∷ xs) ls h =
      subst (AllMatch (IsUnbound work.symbols) (free_leaf x ++ free_uses xs)) (sym (ap unbound_in h.2 ∙ in_both h.0 h.1))
      (match_both (IsUnbound work.symbols) (free_leaf x) (unbound_in h.0) (free_uses xs) (unbound_in h.1) (one_leaf x h.0 h.3) (all_leaves xs h.1 h.4))

-- ---- forms

items_are : (is : List ExpandedItem) → flat_map (λ p. part_seen p false) (map (λ (i : ExpandedItem). i.part) is) ≡ items_seen is
items_are is = flat_map-map (λ p. part_seen p false) (λ (i : ExpandedItem). i.part) is

whole_form : (work : Work) (unit form : ℕ) (c : code_form.UnitForm) (ps : cores.Parts) (met : Counted) → IsExpanded work unit form c ps met → AllMatch (IsUnbound work.symbols) (form_unbound c) (unbound_in (leaves_of_parts ps))
whole_form work unit form c ps met h =
    rw h.whole
    (all_leaves work unit form (items_seen c.items) (leaves_of_parts ps)
    (subst (λ (xs : List Seen). AreSeen work unit form xs (leaves_of_parts ps)) (items_are c.items) (parts_leaves work unit form false (map (λ (i : ExpandedItem). i.part) c.items) ps h.parts h.levels)))

one_form : (work : Work) (unit form : ℕ) (c : code_form.UnitForm) (r : Result cores.Parts Broken) (met : Counted) → IsResult work unit form c r met → AllMatch (IsUnbound work.symbols) (form_unbound c) (unbound_in (form_leaves r))
one_form work unit form c (Ok ps) met h = whole_form work unit form c ps met h
one_form work unit form c (Err e) met h = rw h.1 tt

blank_form : (c : code_form.UnitForm) → IsBlank c → form_unbound c ≡ []
blank_form c h = rw (h.fault, h.items) refl

pub forms_unbound : (work : Work) (unit form : ℕ) (cs : List code_form.UnitForm) (rs : List Formed) → FormsStand work unit form cs rs → AllMatch (IsUnbound work.symbols) (flat_map form_unbound cs) (unbound_in (unit_leaves rs))
forms_unbound work unit form [] [] h = tt
forms_unbound work unit form [] (r ∷ rs) h = absurd h
forms_unbound work unit form (c ∷ cs) [] h = rw (blank_form c h.0) (forms_unbound work unit (suc form) cs [] h.1)
forms_unbound work unit form (c ∷ cs) (r ∷ rs) h = go (forms_unbound work unit (suc form) cs (r ∷ rs)) (forms_unbound work unit (suc form) cs rs) h
  where
    go : (FormsStand work unit (suc form) cs (r ∷ rs) → AllMatch (IsUnbound work.symbols) (flat_map form_unbound cs) (unbound_in (unit_leaves (r ∷ rs)))) →
        (FormsStand work unit (suc form) cs rs → AllMatch (IsUnbound work.symbols) (flat_map form_unbound cs) (unbound_in (unit_leaves rs))) → (IsBlank c × (form < r.form) × FormsStand work unit (suc form) cs (r ∷ rs)) ⊎ ((r.form ≡ form) × IsResult work unit form c r.result r.counted × FormsStand work unit (suc form) cs rs) →
        AllMatch (IsUnbound work.symbols) (form_unbound c ++ flat_map form_unbound cs) (unbound_in (form_leaves r.result ++ unit_leaves rs))
    go later next (inl k) = rw (blank_form c k.0) (later k.2)
    go later next (inr k) =
        subst (AllMatch (IsUnbound work.symbols) (form_unbound c ++ flat_map form_unbound cs)) (sym (in_both (form_leaves r.result) (unit_leaves rs)))
        (match_both (IsUnbound work.symbols) (form_unbound c) (unbound_in (form_leaves r.result)) (flat_map form_unbound cs) (unbound_in (unit_leaves rs)) (one_form work unit form c r.result r.counted k.1)
        (next k.2))

-- ---- what the code finds, one more of them

pub broken_none : (f : code_form.UnitForm) → is_some f.fault ≡ true → form_unbound f ≡ []
broken_none f h = go f.fault refl h
  where
    go : (o : Option FormFault) → f.fault ≡ o → is_some o ≡ true → form_unbound f ≡ []
    go None e k = absurd cc
    go (Some x) e k = rw e refl

pub whole_all : (f : code_form.UnitForm) → is_some f.fault ≡ false → form_unbound f ≡ free_uses (items_seen f.items)
whole_all f h = go f.fault refl h
  where
    go : (o : Option FormFault) → f.fault ≡ o → is_some o ≡ false → form_unbound f ≡ free_uses (items_seen f.items)
    go None e k = rw e refl
    go (Some x) e k = absurd cc

pub unbound_more : (fs : List code_form.UnitForm) (i : ℕ) (f : code_form.UnitForm) (old new : List Target) → i < length fs → f ≡ get_or fs i f → old ≡ flat_map form_unbound (take i fs) → new ≡ old ++ form_unbound f →
    new ≡ flat_map form_unbound (take (i + 1) fs)
unbound_more fs i f old new lt is o n =
    n ∙ (λ j. o j ++ padded (form_unbound f) j) ∙ sym (flat_map-append form_unbound (take i fs) (f ∷ []))
    ∙ ap (λ (g : code_form.UnitForm). flat_map form_unbound (take i fs ++ g ∷ [])) is ∙ ap (flat_map form_unbound) (sym (take_more fs i f lt))
  where
    padded : (xs : List Target) → xs ≡ xs ++ []
    padded xs = sym (append-nil xs)

pub leaves_more : (front : List Target) (ys : List Leaf) (y : Leaf) (old new : List Target) → old ≡ front ++ free_uses (map seen_of ys) → new ≡ old ++ free_leaf (seen_of y) → new ≡ front ++ free_uses (map seen_of (ys ++ y ∷ []))
leaves_more front ys y old new o n =
    n ∙ ap (λ (xs : List Target). xs ++ free_leaf (seen_of y)) o ∙ append_assoc front (free_uses (map seen_of ys)) (free_leaf (seen_of y))
    ∙ ap (λ (xs : List Target). front ++ xs)
    (ap (λ (xs : List Target). free_uses (map seen_of ys) ++ xs) (sym (append-nil (free_leaf (seen_of y)))) ∙ sym (flat_map-append free_leaf (map seen_of ys) (seen_of y ∷ []))
    ∙ ap free_uses (sym (map_push seen_of ys y)))
