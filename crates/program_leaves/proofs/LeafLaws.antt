-- The leaves of a core of the code are those of the core that it stands for.
use Rattle.std.proofs.Common.{◌≡◌, ℕ, zero, suc, List, [], ◌∷◌, ◌++◌, map, Bool, true, Option, Some, refl, sym, ap, ◌∙◌, subst, append_assoc}
use Rattle.std.specs.Prelude.{slice_get}
use Rattle.std.specs.List.{flat_map}
use Rattle.std.proofs.lemmas.List.{append-nil}
use Rattle.scheme_model.specs.declared.Occ.{Occ}
use Rattle.scheme_model.specs.Meaning.{Local as LocalMeaning}
use Rattle.scheme_model.specs.Cores as model
use Rattle.scheme_model.specs.Expression.{meaning_of}
use Rattle.scheme_model.specs.Live as live
use Rattle.scheme_model.specs.Live.{CoreLeaf, leaves_of, leaves_of_all, leaves_of_clauses, leaves_of_parts, leaves_of_part, macro_leaves, field_use, fields_used}
use Rattle.syntax_tree.specs.declared.trees.Work.{Work}
use Rattle.syntax_tree.specs.Meant.{IsMeaning}
use Rattle.syntax_tree.specs.declared.meaning.Meaning.TheVariants as meanings
use Rattle.core_tree.specs.Names.{AllMatch, IsBound, IsBinder, IsTarget, IsMacro, IsField}
use Rattle.core_tree.specs.Cores.{CoreStands, CoresStand, ClausesStand, PartsStand, PartStands}
use Rattle.core_tree.specs.Levels.{BindsAs, AllBind, AllMacrosBind, BindsLocals, AllBindLocals, ClausesBindLocals, PartsBind, PartBinds}
use Rattle.core_tree.specs.declared.cores.Binder.{Binder}
use Rattle.core_tree.specs.declared.cores.MacroDef.{MacroDef}
use Rattle.core_tree.specs.declared.cores.FieldUse.{FieldUse}
use Rattle.core_tree.specs.declared.cores.Core.{Core}
use Rattle.core_tree.specs.declared.cores.Clause.{Clause}
use Rattle.core_tree.specs.declared.cores.CorePart.{CorePart}
use Rattle.program_leaves.specs.Leaves.{Seen, Binds, Uses, Assigns, Quoted, Holed, Defines, core_seen, part_seen, cores_seen, clauses_seen, parts_seen, binders_seen, macro_seen, macros_seen, field_seen, fields_seen, IsSeen, AreSeen}
use Rattle.program_leaves.proofs.SeenLaws.{seen_ref, seen_const, seen_quote, seen_quasi, seen_lambda, seen_case_lambda, seen_if, seen_set, seen_call, seen_body, seen_let_syntax, seen_clause, seen_expression, seen_define, seen_values, seen_fields, seen_syntax}

module _ (work : Work) (unit form : ℕ) where
  -- ---- one after another

  pub seen_one : (x : Seen) (ls : List CoreLeaf) → IsSeen work unit form x ls → AreSeen work unit form (x ∷ []) ls
  seen_one x ls h = (ls, [], sym (append-nil ls), h, refl)

  pub seen_more : (x : Seen) (xs : List Seen) (ls ms : List CoreLeaf) → IsSeen work unit form x ls → AreSeen work unit form xs ms → AreSeen work unit form (x ∷ xs) (ls ++ ms)
  seen_more x xs ls ms h k = (ls, ms, refl, h, k)

  pub seen_both : (xs ys : List Seen) (ls ms : List CoreLeaf) → AreSeen work unit form xs ls → AreSeen work unit form ys ms → AreSeen work unit form (xs ++ ys) (ls ++ ms)
  seen_both [] ys ls ms h k = subst (λ (q : List CoreLeaf). AreSeen work unit form ys (q ++ ms)) (sym h) k
  seen_both (x ∷ xs) ys ls ms h k =
      (h.0, h.1 ++ ms, ap (λ (q : List CoreLeaf). q ++ ms) h.2 ∙ append_assoc h.0 h.1 ms, h.3, seen_both xs ys h.1 ms h.4 k)

  seen_as : (xs ys : List Seen) (ls : List CoreLeaf) → ys ≡ xs → AreSeen work unit form xs ls → AreSeen work unit form ys ls
  seen_as xs ys ls e h = subst (λ (q : List Seen). AreSeen work unit form q ls) (sym e) h

  -- ---- binders, macros and fields

  pub binders_are : (local : Bool) (bs : List Binder) (ms : List model.Binder) → AllMatch (IsBinder work.symbols unit form) bs ms → AllBind local ms → AreSeen work unit form (binders_seen local bs) (map live.Binds ms)
  binders_are local [] [] h k = refl
  binders_are local [] (m ∷ ms) h k = absurd h
  binders_are local (b ∷ bs) [] h k = absurd h
  binders_are local (b ∷ bs) (m ∷ ms) h k = seen_more (Binds local b) (binders_seen local bs) (live.Binds m ∷ []) (map live.Binds ms) (m, refl, h.0, k.0) (binders_are local bs ms h.1 k.1)

  macro_is : (local : Bool) (d : MacroDef) (m : model.MacroDef) → IsMacro work unit form d m → BindsAs local m.binder.bound → AreSeen work unit form (macro_seen local d) (live.Binds m.binder ∷ live.Defines m ∷ [])
  macro_is local d m h k =
      seen_more (Binds local d.binder) (Defines d ∷ []) (live.Binds m.binder ∷ []) (live.Defines m ∷ []) (m.binder, refl, h.binder, k) (seen_one (Defines d) (live.Defines m ∷ []) (m, refl, h))

  macros_are : (ds : List MacroDef) (ms : List model.MacroDef) → AllMatch (IsMacro work unit form) ds ms → AllMacrosBind true ms → AreSeen work unit form (macros_seen ds) (macro_leaves ms)
  macros_are [] [] h k = refl
  macros_are [] (m ∷ ms) h k = absurd h
  macros_are (d ∷ ds) [] h k = absurd h
  macros_are (d ∷ ds) (m ∷ ms) h k = seen_both (macro_seen true d) (macros_seen ds) (live.Binds m.binder ∷ live.Defines m ∷ []) (macro_leaves ms) (macro_is true d m h.0 k.0) (macros_are ds ms h.1 k.1)

  used_local : (b : Binder) (m : model.Binder) (u : FieldUse) (o : Option Occ) → IsBinder work.symbols unit form b m → (x : model.Bound) → m.bound ≡ x → BindsAs true x → u.occ ≡ o →
      AreSeen work unit form (field_seen (Some b) u) (live.Uses (record { meaning = meaning_of m.bound m.ident; ident = m.ident; occ = o }) ∷ [])
  used_local b m u o h (model.LocalNumber v) e k occ =
      let number : v ≡ record { unit = unit; form = form; count = b.number } = subst (λ (x : model.Bound). IsBound unit form b.number x) e h.number in
      let used : model.Target = record { meaning = meaning_of m.bound m.ident; ident = m.ident; occ = o } in
      let meant : IsMeaning work.symbols unit form (meanings.Local b.number) (meaning_of m.bound m.ident) = ap (λ (x : model.Bound). meaning_of x m.ident) e ∙ ap LocalMeaning number in
      let is : IsTarget work.symbols unit form (record { meaning = meanings.Local b.number; ident = b.ident; occ = u.occ }) used = record { meaning = meant; ident = h.ident; place = occ } in
      seen_one (Uses (record { meaning = meanings.Local b.number; ident = b.ident; occ = u.occ })) (live.Uses used ∷ []) (used, refl, is)
  used_local b m u o h (model.Definition v n) e k occ = absurd k

  field_is : (n : ℕ) (u : FieldUse) (o : Option Occ) (fs : List Binder) (ms : List model.Binder) → AllMatch (IsBinder work.symbols unit form) fs ms → AllBind true ms → u.occ ≡ o →
      AreSeen work unit form (field_seen (slice_get fs n) u) (field_use ms n o)
  field_is n u o [] [] h k occ = refl
  field_is n u o [] (m ∷ ms) h k occ = absurd h
  field_is n u o (b ∷ bs) [] h k occ = absurd h
  field_is zero u o (b ∷ bs) (m ∷ ms) h k occ = used_local b m u o h.0 m.bound refl k.0 occ
  field_is (suc n) u o (b ∷ bs) (m ∷ ms) h k occ = field_is n u o bs ms h.1 k.1 occ

  fields_are : (fs : List Binder) (ms : List model.Binder) (us : List FieldUse) (ns : List model.FieldUse) → AllMatch (IsBinder work.symbols unit form) fs ms → AllBind true ms → AllMatch IsField us ns →
      AreSeen work unit form (fields_seen fs us) (fields_used ms ns)
  fields_are fs ms [] [] h k g = refl
  fields_are fs ms [] (n ∷ ns) h k g = absurd g
  fields_are fs ms (u ∷ us) [] h k g = absurd g
  fields_are fs ms (u ∷ us) (n ∷ ns) h k g =
      seen_both (field_seen (slice_get fs u.field) u) (fields_seen fs us) (field_use ms n.field n.occ) (fields_used ms ns)
      (subst (λ (x : ℕ). AreSeen work unit form (field_seen (slice_get fs u.field) u) (field_use ms x n.occ)) g.0.field (field_is u.field u n.occ fs ms h k g.0.place)) (fields_are fs ms us ns h k g.1)

  -- ---- cores

  mutual
    pub core_leaves : (c : Core) (m : model.Core) → CoreStands work unit form c m → BindsLocals m → AreSeen work unit form (core_seen c) (leaves_of m)
    core_leaves c (model.Ref t) h k =
        seen_as (Uses h.0 ∷ []) (core_seen c) (live.Uses t ∷ []) (ap core_seen h.1 ∙ seen_ref h.0) (seen_one (Uses h.0) (live.Uses t ∷ []) (t, refl, h.2))
    core_leaves c (model.Const a) h k = seen_as [] (core_seen c) [] (ap core_seen h.2 ∙ seen_const h.0) refl
    core_leaves c (model.Quote d) h k =
        let ls = live.name_places live.any_name d in
        seen_as (Quoted h.0 ∷ []) (core_seen c) ls (ap core_seen h.2 ∙ seen_quote h.0) (seen_one (Quoted h.0) ls (h.1, h.3, ap (live.name_places live.any_name) (sym h.4)))
    core_leaves c (model.Quasi d ms) h k =
        seen_as (Holed h.0 h.1.items ∷ cores_seen h.2.items) (core_seen c) (live.name_places live.no_hole d ++ leaves_of_all ms) (ap core_seen h.3 ∙ seen_quasi h.0 h.1 h.2)
        (seen_more (Holed h.0 h.1.items) (cores_seen h.2.items) (live.name_places live.no_hole d) (leaves_of_all ms) (d, h.4, refl) (cores_leaves h.2.items ms h.5 k))
    core_leaves c (model.Lambda bs m) h k =
        let x = h.0 in
        let q = h.3 in
        seen_as (binders_seen true q.0.items ++ core_seen h.1.value) (core_seen c) (map live.Binds bs.names ++ leaves_of m) (ap core_seen h.2 ∙ seen_lambda x ∙ seen_clause x q.0 q.1 h.1 q.2)
        (seen_both (binders_seen true q.0.items) (core_seen h.1.value) (map live.Binds bs.names) (leaves_of m) (binders_are true q.0.items bs.names q.3.0 k.0) (core_leaves h.1.value m h.4 k.1))
    core_leaves c (model.CaseLambda ms) h k =
        seen_as (clauses_seen h.0.items) (core_seen c) (leaves_of_clauses ms) (ap core_seen h.1 ∙ seen_case_lambda h.0) (clauses_leaves h.0.items ms h.2 k)
    core_leaves c (model.If ms) h k = seen_as (cores_seen h.0.items) (core_seen c) (leaves_of_all ms) (ap core_seen h.1 ∙ seen_if h.0) (cores_leaves h.0.items ms h.2 k)
    core_leaves c (model.Set t m) h k =
        seen_as (Assigns h.0 ∷ core_seen h.1.value) (core_seen c) (live.Assigns t ∷ leaves_of m) (ap core_seen h.2 ∙ seen_set h.0 h.1)
        (seen_more (Assigns h.0) (core_seen h.1.value) (live.Assigns t ∷ []) (leaves_of m) (t, refl, h.3) (core_leaves h.1.value m h.4 k))
    core_leaves c (model.Call ms) h k = seen_as (cores_seen h.0.items) (core_seen c) (leaves_of_all ms) (ap core_seen h.1 ∙ seen_call h.0) (cores_leaves h.0.items ms h.2 k)
    core_leaves c (model.Body ms) h k = seen_as (parts_seen h.0.items) (core_seen c) (leaves_of_parts ms) (ap core_seen h.1 ∙ seen_body h.0) (parts_leaves true h.0.items ms h.2 k)
    core_leaves c (model.LetSyntax ds m) h k =
        seen_as (macros_seen h.0.items ++ core_seen h.1.value) (core_seen c) (macro_leaves ds ++ leaves_of m) (ap core_seen h.2 ∙ seen_let_syntax h.0 h.1)
        (seen_both (macros_seen h.0.items) (core_seen h.1.value) (macro_leaves ds) (leaves_of m) (macros_are h.0.items ds h.3 k.0) (core_leaves h.1.value m h.4 k.1))

    pub cores_leaves : (cs : List Core) (ms : model.Cores) → CoresStand work unit form cs ms → AllBindLocals ms → AreSeen work unit form (cores_seen cs) (leaves_of_all ms)
    cores_leaves [] model.no_cores h k = refl
    cores_leaves [] (model.core m ms) h k = absurd h
    cores_leaves (c ∷ cs) model.no_cores h k = absurd h
    cores_leaves (c ∷ cs) (model.core m ms) h k = seen_both (core_seen c) (cores_seen cs) (leaves_of m) (leaves_of_all ms) (core_leaves c m h.0 k.0) (cores_leaves cs ms h.1 k.1)

    pub clauses_leaves : (cs : List Clause) (ms : model.Clauses) → ClausesStand work unit form cs ms → ClausesBindLocals ms → AreSeen work unit form (clauses_seen cs) (leaves_of_clauses ms)
    clauses_leaves [] model.no_clauses h k = refl
    clauses_leaves [] (model.clause bs m ms) h k = absurd h
    clauses_leaves (c ∷ cs) model.no_clauses h k = absurd h
    clauses_leaves (c ∷ cs) (model.clause bs m ms) h k =
        let x = h.0 in
        let q = x.1 in
        seen_as ((binders_seen true q.0.items ++ core_seen x.0.value) ++ clauses_seen cs) (clauses_seen (c ∷ cs)) (map live.Binds bs.names ++ leaves_of m ++ leaves_of_clauses ms)
        (ap (λ (s : List Seen). s ++ clauses_seen cs) (seen_clause c q.0 q.1 x.0 q.2))
        (seen_both (binders_seen true q.0.items ++ core_seen x.0.value) (clauses_seen cs) (map live.Binds bs.names ++ leaves_of m) (leaves_of_clauses ms)
        (seen_both (binders_seen true q.0.items) (core_seen x.0.value) (map live.Binds bs.names) (leaves_of m) (binders_are true q.0.items bs.names q.3.0 k.0) (core_leaves x.0.value m x.2 k.1)) (clauses_leaves cs ms h.1 k.2))

    pub parts_leaves : (local : Bool) (ps : List CorePart) (ms : model.Parts) → PartsStand work unit form ps ms → PartsBind local ms → AreSeen work unit form (flat_map (λ p. part_seen p local) ps) (leaves_of_parts ms)
    parts_leaves local [] model.no_parts h k = refl
    parts_leaves local [] (model.part m ms) h k = absurd h
    parts_leaves local (p ∷ ps) model.no_parts h k = absurd h
    parts_leaves local (p ∷ ps) (model.part m ms) h k = seen_both (part_seen p local) (flat_map (λ q. part_seen q local) ps) (leaves_of_part m) (leaves_of_parts ms) (part_leaves local p m h.0 k.0) (parts_leaves local ps ms h.1 k.1)

    pub part_leaves : (local : Bool) (p : CorePart) (m : model.Part) → PartStands work unit form p m → PartBinds local m → AreSeen work unit form (part_seen p local) (leaves_of_part m)
    part_leaves local p (model.Expression m) h k = seen_as (core_seen h.0) (part_seen p local) (leaves_of m) (ap (λ (q : CorePart). part_seen q local) h.1 ∙ seen_expression h.0 local) (core_leaves h.0 m h.2 k)
    part_leaves local p (model.Define b m) h k =
        seen_as (Binds local h.0 ∷ core_seen h.1) (part_seen p local) (live.Binds b ∷ leaves_of m) (ap (λ (q : CorePart). part_seen q local) h.2 ∙ seen_define h.0 h.1 local)
        (seen_more (Binds local h.0) (core_seen h.1) (live.Binds b ∷ []) (leaves_of m) (b, refl, h.3, k.0) (core_leaves h.1 m h.4 k.1))
    part_leaves local p (model.Values bs m) h k =
        seen_as (binders_seen local h.0.items ++ core_seen h.2) (part_seen p local) (map live.Binds bs.names ++ leaves_of m) (ap (λ (q : CorePart). part_seen q local) h.3 ∙ seen_values h.0 h.1 h.2 local)
        (seen_both (binders_seen local h.0.items) (core_seen h.2) (map live.Binds bs.names) (leaves_of m) (binders_are local h.0.items bs.names h.4.0 k.0) (core_leaves h.2 m h.5 k.1))
    part_leaves local p (model.Fields r) h k =
        seen_as (binders_seen local h.0.items ++ binders_seen true h.1.items ++ fields_seen h.1.items h.3.items) (part_seen p local) (map live.Binds r.binders ++ map live.Binds r.fields ++ fields_used r.fields r.used)
        (ap (λ (q : CorePart). part_seen q local) h.4 ∙ seen_fields h.0 h.1 h.2 h.3 local)
        (seen_both (binders_seen local h.0.items ++ binders_seen true h.1.items) (fields_seen h.1.items h.3.items) (map live.Binds r.binders ++ map live.Binds r.fields) (fields_used r.fields r.used)
        (seen_both (binders_seen local h.0.items) (binders_seen true h.1.items) (map live.Binds r.binders) (map live.Binds r.fields) (binders_are local h.0.items r.binders h.5 k.0) (binders_are true h.1.items r.fields h.6 k.1))
        (fields_are h.1.items r.fields h.3.items r.used h.6 k.1 h.8))
    part_leaves local p (model.Syntax d) h k = seen_as (macro_seen local h.0) (part_seen p local) (live.Binds d.binder ∷ live.Defines d ∷ []) (ap (λ (q : CorePart). part_seen q local) h.1 ∙ seen_syntax h.0 local) (macro_is local h.0 d h.2 k)
