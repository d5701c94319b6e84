-- Each place from which an identifier of a program takes its characters is the target of a link.
use Rattle.std.proofs.Common.{◌≡◌, inl, inr, ℕ, List, [], ◌∷◌, ◌++◌, filter, Bool, true, false, not, cond, Option, Some, None, refl, sym, ap, ◌∙◌, subst}
use Rattle.std.specs.List.{flat_map}
use Rattle.scheme_model.specs.declared.Occ.{Occ}
use Rattle.scheme_model.specs.Identifiers.{Number, same_number}
use Rattle.scheme_model.specs.Ident.{Ident, Written, Inserted, same_ident}
use Rattle.scheme_model.specs.Trees.{Tree, name, atom, list, vector, Trees, no_trees, tree, Tail, proper, dotted}
use Rattle.scheme_model.specs.Meaning.{Meaning, Local, Global, Standard, Free}
use Rattle.scheme_model.specs.Cores.{Target, Bound, LocalNumber, Definition}
use Rattle.scheme_model.specs.RulesShape.{Rule, Rules, Variable, pattern_variables}
use Rattle.scheme_model.specs.Substitution.{Table, Defined, defined_in}
use Rattle.scheme_model.specs.Entries.{At, Origin, Entry, entry_at, place_origin}
use Rattle.scheme_model.specs.IncludedUnits.{Placed}
use Rattle.scheme_model.specs.Program.{ImportSpec, ExportSpec, WholeFault, UnitResult, Program, result_at, names_of_unit, is_some_fault}
use Rattle.scheme_model.specs.Live.{CoreLeaf, Binds, Uses, Assigns, Quotes, Defines, NameUse, export_uses, all_export_uses}
use Rattle.scheme_model.specs.ProgramArrows.{Arrow, program_leaves, program_keywords, import_uses, unit_names, program_names, is_whole, program_table, local_at, bound_here, arrow_of, is_live_at, core_targets, ident_names, variable_arrow, template_arrows, template_arrows_all, template_arrows_tail, rule_arrows, places_at, variable_places, rule_binders, leaf_binders, table_binders, binders_in}
use Rattle.scheme_model.specs.Spelling.{Link, entries_at, imported_origins, defined_or, ident_origins, target_origins, links_at, target_links, name_links, arrow_links, links_to_themselves, leaf_targets, macro_links, second_places, second_places_in, links_of}
use Rattle.model_laws.proofs.FrameAsks.{AllOf}
use Rattle.model_laws.proofs.FrameHeld.{all_append}
use Rattle.program_leaves.specs.Members.{IsIn}
use Rattle.program_leaves.proofs.MemberLaws.{in_left, in_right, in_flat_map}
use Rattle.class_laws.proofs.EntryOrigins.{SourceHas, OriginHas, OccHas, EntriesHave, UseHas, DefinedHas, SpecHas, UnitsExport, outer_use, entries_more, place_has, at_has, origins_have, names_have, import_uses_have, export_uses_have}
use Rattle.class_laws.proofs.Places.{all_from, IsGivenBy, by_definition, by_second, by_outer, IsPlace, found_among, defined_from, spec_from, outers_from}

-- a link leads to it
abbrev pub IsTarget : List Link → Occ → Type 0
IsTarget ls q = (l : Link) × IsIn l ls × (l.target ≡ q)

target_left : (ls ms : List Link) (q : Occ) → IsTarget ls q → IsTarget (ls ++ ms) q
target_left ls ms q h = (h.0, in_left h.0 ls ms h.1, h.2)

target_right : (ls ms : List Link) (q : Occ) → IsTarget ms q → IsTarget (ls ++ ms) q
target_right ls ms q h = (h.0, in_right h.0 ls ms h.1, h.2)

in_filter : {X : Type 0} (f : X → Bool) (x : X) (xs : List X) → IsIn x xs → f x ≡ true → IsIn x (filter f xs)
in_filter f x [] h t = absurd h
in_filter f x (y ∷ ys) (inl e) t = subst (λ (b : Bool). IsIn x (cond b (y ∷ filter f ys) (filter f ys))) (sym (ap f e ∙ t)) (inl e)
in_filter f x (y ∷ ys) (inr h) t = go (f y) (in_filter f x ys h t)
  where
    go : (b : Bool) → IsIn x (filter f ys) → IsIn x (cond b (y ∷ filter f ys) (filter f ys))
    go true rest = inr rest
    go false rest = rest

-- ---- what is linked to itself

themselves_lead : (os : List Occ) (q : Occ) → IsIn q os → IsTarget (links_to_themselves os) q
themselves_lead [] q h = absurd h
themselves_lead (o ∷ os) q (inl e) = (record { origin = At o; target = o; prefix = [] }, inl refl, e)
themselves_lead (o ∷ os) q (inr h) = let t = themselves_lead os q h in (t.0, inr t.1, t.2)

in_places : (o : Option Occ) (q : Occ) → o ≡ Some q → IsIn q (places_at o)
in_places o q e = subst (λ p. IsIn q (places_at p)) (sym e) (inl refl)

in_table : (table : Table) (d : Defined) (q : Occ) → IsIn d table → d.occ ≡ Some q → IsIn q (table_binders table)
in_table [] d q h e = absurd h
in_table (x ∷ table) d q (inl s) e = in_left q (places_at x.occ) (table_binders table) (in_places x.occ q (ap (λ (y : Defined). y.occ) s ∙ e))
in_table (x ∷ table) d q (inr h) e = in_right q (places_at x.occ) (table_binders table) (in_table table d q h e)

in_seconds : (rs : List UnitResult) (r : UnitResult) (s : ImportSpec) (q : Occ) → IsIn r rs → r.fault ≡ None → IsIn s r.unit.specs → IsIn q (second_places s.set) → IsIn q (second_places_in rs)
in_seconds [] r s q h w i k = absurd h
in_seconds (x ∷ rs) r s q (inl e) w i k =
    in_left q (cond (is_some_fault x.fault) [] (flat_map (λ (s : ImportSpec). second_places s.set) x.unit.specs)) (second_places_in rs)
    (subst (λ (y : UnitResult). IsIn q (cond (is_some_fault y.fault) [] (flat_map (λ (s : ImportSpec). second_places s.set) y.unit.specs))) (sym e)
    (subst (λ f. IsIn q (cond (is_some_fault f) [] (flat_map (λ (s : ImportSpec). second_places s.set) r.unit.specs))) (sym w) (in_flat_map (λ (s : ImportSpec). second_places s.set) s q r.unit.specs i k)))
in_seconds (x ∷ rs) r s q (inr h) w i k = in_right q (cond (is_some_fault x.fault) [] (flat_map (λ (s : ImportSpec). second_places s.set) x.unit.specs)) (second_places_in rs) (in_seconds rs r s q h w i k)

-- ---- new names of exports

leads_to : (n : NameUse) (ns : List NameUse) (q : Occ) → IsIn n ns → n.occ ≡ Some q → n.origins ≡ place_origin n.occ → IsTarget (name_links ns) q
leads_to n [] q h e k = absurd h
leads_to n (m ∷ ns) q (inl s) e k =
    target_left (links_at m.occ m.origins) (name_links ns) q (subst (λ (y : NameUse). IsTarget (links_at y.occ y.origins) q) (sym s) (one n.occ n.origins e (k ∙ ap place_origin e)))
  where
    one : (o : Option Occ) (gs : List Origin) → o ≡ Some q → gs ≡ place_origin (Some q) → IsTarget (links_at o gs) q
    one o gs e k = subst (λ p. IsTarget (links_at p gs) q) (sym e) (subst (λ hs. IsTarget (links_at (Some q) hs) q) (sym k) (record { origin = At q; target = q; prefix = [] }, inl refl, refl))
leads_to n (m ∷ ns) q (inr h) e k = target_right (links_at m.occ m.origins) (name_links ns) q (leads_to n ns q h e k)

in_exports : (find : List ℕ → Option Entry) (xs : List ExportSpec) (x : ExportSpec) → IsIn x xs → x.renamed ≡ true → IsIn (outer_use find x) (all_export_uses find xs)
in_exports find [] x h e = absurd h
in_exports find (y ∷ xs) x (inl s) e = in_left (outer_use find x) (export_uses find y) (all_export_uses find xs) (subst (λ (z : ExportSpec). IsIn (outer_use find x) (export_uses find z)) (sym s) (inr (subst (λ b. IsIn (outer_use find x) (cond b (outer_use find x ∷ []) [])) (sym e) (inl refl))))
in_exports find (y ∷ xs) x (inr h) e = in_right (outer_use find x) (export_uses find y) (all_export_uses find xs) (in_exports find xs x h e)

in_names : (all : List Placed) (p : Program) (rs : List UnitResult) (r : UnitResult) (n : NameUse) → IsIn r rs → IsIn n (unit_names all p r) → IsIn n (program_names all p rs)
in_names all p [] r n h k = absurd h
in_names all p (x ∷ rs) r n (inl e) k = in_left n (unit_names all p x) (program_names all p rs) (subst (λ (y : UnitResult). IsIn n (unit_names all p y)) (sym e) k)
in_names all p (x ∷ rs) r n (inr h) k = in_right n (unit_names all p x) (program_names all p rs) (in_names all p rs r n h k)

-- ---- binders in cores

-- places that are no fewer: those of each leaf are among all
module _ (P : Occ → Type 0) where
  local_has : (v : Number) (ls : List CoreLeaf) → ((q : Occ) → IsIn q (leaf_binders ls) → P q) → OccHas P (local_at ls v)
  local_has v [] h = tt
  local_has v (Binds b ∷ ls) h = go b.bound (local_has v ls (λ q i. h q (in_right q (places_at b.occ) (leaf_binders ls) i)))
    where
      own : (o : Option Occ) → b.occ ≡ o → OccHas P o
      own None e = tt
      own (Some q) e = h q (in_left q (places_at b.occ) (leaf_binders ls) (in_places b.occ q e))

      test : (t : Bool) → OccHas P (local_at ls v) → OccHas P (cond t b.occ (local_at ls v))
      test true more = own b.occ refl
      test false more = more

      go : (x : Bound) → OccHas P (local_at ls v) → OccHas P (bound_here x b.occ v (local_at ls v))
      go (LocalNumber w) more = test (same_number w v) more
      go (Definition u n) more = more
  local_has v (Uses t ∷ ls) h = local_has v ls h
  local_has v (Assigns t ∷ ls) h = local_has v ls h
  local_has v (Quotes o ∷ ls) h = local_has v ls h
  local_has v (Defines m ∷ ls) h = local_has v ls (λ q i. h q (in_right q (rule_binders m.rules m.rules.rules) (leaf_binders ls) i))

  -- ---- pattern variables

  abbrev ArrowHas : Arrow → Type 0
  ArrowHas a = P a.binder

  arrow_has : (b o : Option Occ) → OccHas P b → AllOf ArrowHas (arrow_of b o)
  arrow_has None o h = tt
  arrow_has (Some b) None h = tt
  arrow_has (Some b) (Some o) h = (h, tt)

  variable_has : (vs : List (Variable Ident)) (i : Ident) (o : Option Occ) → ((q : Occ) → IsIn q (variable_places vs) → P q) → AllOf ArrowHas (variable_arrow vs i o)
  variable_has [] i o h = tt
  variable_has (v ∷ vs) i o h = go (same_ident v.variable.name i) (variable_has vs i o (λ q k. h q (in_right q (places_at v.variable.occ) (variable_places vs) k)))
    where
      own : (b : Option Occ) → v.variable.occ ≡ b → OccHas P b
      own None e = tt
      own (Some q) e = h q (in_left q (places_at v.variable.occ) (variable_places vs) (in_places v.variable.occ q e))

      go : (t : Bool) → AllOf ArrowHas (variable_arrow vs i o) → AllOf ArrowHas (cond t (arrow_of v.variable.occ o) (variable_arrow vs i o))
      go true more = arrow_has v.variable.occ o (own v.variable.occ refl)
      go false more = more

  module _ (vs : List (Variable Ident)) (h : (q : Occ) → IsIn q (variable_places vs) → P q) where
    mutual
      template_has : (t : Tree Ident) → AllOf ArrowHas (template_arrows vs t)
      template_has (name i o) = variable_has vs i o h
      template_has (atom a o) = tt
      template_has (list ts tail o) = all_append ArrowHas (template_arrows_all vs ts) (template_arrows_tail vs tail) (templates_have ts) (tail_has tail)
      template_has (vector ts o) = templates_have ts

      templates_have : (ts : Trees Ident) → AllOf ArrowHas (template_arrows_all vs ts)
      templates_have no_trees = tt
      templates_have (tree t ts) = all_append ArrowHas (template_arrows vs t) (template_arrows_all vs ts) (template_has t) (templates_have ts)

      tail_has : (t : Tail Ident) → AllOf ArrowHas (template_arrows_tail vs t)
      tail_has proper = tt
      tail_has (dotted t) = template_has t

  rules_have : (r : Rules Ident) (rules : List (Rule Ident)) → ((q : Occ) → IsIn q (rule_binders r rules) → P q) → AllOf ArrowHas (rule_arrows r rules)
  rules_have r [] h = tt
  rules_have r (rule ∷ rules) h =
      let vs = pattern_variables ident_names r rule in
      all_append ArrowHas (template_arrows vs rule.template) (rule_arrows r rules) (template_has vs (λ q i. h q (in_left q (variable_places vs) (rule_binders r rules) i)) rule.template)
      (rules_have r rules (λ q i. h q (in_right q (variable_places vs) (rule_binders r rules) i)))

  -- ---- links whose origins are such places

  abbrev pub LinkHas : Link → Type 0
  LinkHas l = SourceHas P l.origin

  links_have : (o : Option Occ) (gs : List Origin) → AllOf (OriginHas P) gs → AllOf LinkHas (links_at o gs)
  links_have None gs h = tt
  links_have (Some o) [] h = tt
  links_have (Some o) (g ∷ gs) h = (h.0, links_have (Some o) gs h.1)

  names_linked : (ns : List NameUse) → AllOf (UseHas P) ns → AllOf LinkHas (name_links ns)
  names_linked [] h = tt
  names_linked (n ∷ ns) h = all_append LinkHas (links_at n.occ n.origins) (name_links ns) (links_have n.occ n.origins h.0) (names_linked ns h.1)

  arrows_linked : (arrows : List Arrow) → AllOf ArrowHas arrows → AllOf LinkHas (arrow_links arrows)
  arrows_linked [] h = tt
  arrows_linked (a ∷ arrows) h = (h.0, arrows_linked arrows h.1)

  themselves_linked : (os : List Occ) → ((q : Occ) → IsIn q os → P q) → AllOf LinkHas (links_to_themselves os)
  themselves_linked [] h = tt
  themselves_linked (o ∷ os) h = (h o (inl refl), themselves_linked os (λ q i. h q (inr i)))

  -- what defines an identifier, what imports it, and what binds it are such places
  module _ (leaves : List CoreLeaf) (table : Table) (rs : List UnitResult) (locals : (q : Occ) → IsIn q (leaf_binders leaves) → P q) (defined : (u : ℕ) (i : Ident) → DefinedHas P (defined_in table u i))
      (entries : (n : ℕ) (r : UnitResult) → result_at rs n ≡ Some r → EntriesHave P r.entries) where
    or_has : (d : Option Defined) (gs : List Origin) → DefinedHas P d → AllOf (OriginHas P) gs → AllOf (OriginHas P) (defined_or d gs)
    or_has None gs h k = k
    or_has (Some d) gs h k = place_has P d.occ h

    entries_have : (n : ℕ) (o : Option UnitResult) → result_at rs n ≡ o → EntriesHave P (entries_at o)
    entries_have n None e = tt
    entries_have n (Some r) e = entries n r e

    imported_have : (u : ℕ) (s : List ℕ) → AllOf (OriginHas P) (imported_origins rs u s)
    imported_have u s = origins_have P (entry_at (entries_at (result_at rs u)) s) (at_has P (entries_at (result_at rs u)) (entries_have u (result_at rs u) refl) s)

    ident_has : (i : Ident) → AllOf (OriginHas P) (ident_origins table rs i)
    ident_has (Written u s) = or_has (defined_in table u (Written u s)) (imported_origins rs u s) (defined u (Written u s)) (imported_have u s)
    ident_has (Inserted i k) = or_has (defined_in table k.unit (Inserted i k)) (ident_origins table rs i) (defined k.unit (Inserted i k)) (ident_has i)

    target_has : (t : Target) → AllOf (OriginHas P) (target_origins leaves table rs t)
    target_has t = go t.meaning t.ident
      where
        go : (m : Meaning) (i : Ident) → AllOf (OriginHas P) (target_origins leaves table rs (record { meaning = m; ident = i; occ = t.occ }))
        go (Local v) i = place_has P (local_at leaves v) (local_has v leaves locals)
        go (Global u j) i = ident_has i
        go (Standard s) i = ident_has i
        go (Free s) i = ident_has i

    targets_linked : (ts : List Target) → AllOf LinkHas (target_links leaves table rs ts)
    targets_linked [] = tt
    targets_linked (t ∷ ts) = all_append LinkHas (links_at t.occ (target_origins leaves table rs t)) (target_links leaves table rs ts) (links_have t.occ (target_origins leaves table rs t) (target_has t)) (targets_linked ts)

    macros_linked : (live : Option Occ → Bool) (ls : List CoreLeaf) → ((q : Occ) → IsIn q (leaf_binders ls) → P q) → AllOf LinkHas (macro_links live leaves table rs ls)
    macros_linked live [] h = tt
    macros_linked live (Binds b ∷ ls) h = macros_linked live ls (λ q i. h q (in_right q (places_at b.occ) (leaf_binders ls) i))
    macros_linked live (Uses t ∷ ls) h = macros_linked live ls h
    macros_linked live (Assigns t ∷ ls) h = macros_linked live ls h
    macros_linked live (Quotes o ∷ ls) h = macros_linked live ls h
    macros_linked live (Defines m ∷ ls) h =
        all_append LinkHas (arrow_links (rule_arrows m.rules m.rules.rules) ++ target_links leaves table rs (leaf_targets live m.leaves)) (macro_links live leaves table rs ls)
        (all_append LinkHas (arrow_links (rule_arrows m.rules m.rules.rules)) (target_links leaves table rs (leaf_targets live m.leaves))
        (arrows_linked (rule_arrows m.rules m.rules.rules) (rules_have m.rules m.rules.rules (λ q i. h q (in_left q (rule_binders m.rules m.rules.rules) (leaf_binders ls) i)))) (targets_linked (leaf_targets live m.leaves)))
        (macros_linked live ls (λ q i. h q (in_right q (rule_binders m.rules m.rules.rules) (leaf_binders ls) i)))

-- ---- a program in which each unit is found, and what units import and export is spelled by places

pub record IsSpelled (p : Program) : Type 0 where
  pub found : (r : UnitResult) → IsIn r p.units → result_at p.units r.unit.number ≡ Some r
  pub entries : (n : ℕ) (r : UnitResult) → result_at p.units n ≡ Some r → EntriesHave (IsPlace p.units p.table) r.entries
  pub exports : UnitsExport (IsPlace p.units p.table) p.units

module _ (all : List Placed) (p : Program) (h : IsSpelled p) where
  abbrev leaves : List CoreLeaf
  leaves = program_leaves p.units

  abbrev uses : List Target
  uses = core_targets leaves ++ program_keywords p.units

  abbrev names : List NameUse
  names = program_names all p p.units

  abbrev themselves : List Occ
  themselves = binders_in p ++ second_places_in p.units

  abbrev live : Option Occ → Bool
  live = is_live_at leaves (program_keywords p.units) names

  abbrev Leads : Occ → Type 0
  Leads = IsTarget (links_of all p)

  by_themselves : (q : Occ) → IsIn q themselves → Leads q
  by_themselves q i =
      target_left (target_links leaves (program_table p) p.units uses ++ name_links names ++ links_to_themselves themselves) (macro_links live leaves (program_table p) p.units leaves) q
      (target_right (target_links leaves (program_table p) p.units uses ++ name_links names) (links_to_themselves themselves) q (themselves_lead themselves q i))

  by_names : (q : Occ) → IsTarget (name_links names) q → Leads q
  by_names q i =
      target_left (target_links leaves (program_table p) p.units uses ++ name_links names ++ links_to_themselves themselves) (macro_links live leaves (program_table p) p.units leaves) q
      (target_left (target_links leaves (program_table p) p.units uses ++ name_links names) (links_to_themselves themselves) q (target_right (target_links leaves (program_table p) p.units uses) (name_links names) q i))

  by_leaves : (q : Occ) → IsIn q (leaf_binders leaves) → Leads q
  by_leaves q i = by_themselves q (in_left q (binders_in p) (second_places_in p.units) (in_left q (leaf_binders leaves) (table_binders (program_table p)) i))

  by_table : (d : Defined) → IsIn d (program_table p) → (q : Occ) → d.occ ≡ Some q → Leads q
  by_table d i q e = by_themselves q (in_left q (binders_in p) (second_places_in p.units) (in_right q (leaf_binders leaves) (table_binders (program_table p)) (in_table (program_table p) d q i e)))

  -- the names of a unit that isn't broken as a whole
  whole_names : (r : UnitResult) → r.fault ≡ None → unit_names all p r ≡ import_uses all p.units r.unit.specs ++ all_export_uses (names_of_unit p.table r.unit.number r.entries) r.unit.exports
  whole_names r w = ap (λ f. cond (is_some_fault f) [] (import_uses all p.units r.unit.specs ++ all_export_uses (names_of_unit p.table r.unit.number r.entries) r.unit.exports)) w

  place_leads : (q : Occ) → IsPlace p.units p.table q → Leads q
  place_leads q k = go k.given
    where
      among : IsIn k.unit p.units
      among = found_among p.units k.unit.unit.number k.unit k.found

      go : IsGivenBy p.table k.unit q → Leads q
      go (by_definition d i u o) =
          by_table d (in_filter (λ (d : Defined). is_whole (result_at p.units d.unit)) d p.table i (ap (λ n. is_whole (result_at p.units n)) u ∙ ap is_whole k.found ∙ ap (λ f. not (is_some_fault f)) k.whole)) q o
      go (by_second s i m) = by_themselves q (in_right q (binders_in p) (second_places_in p.units) (in_seconds p.units k.unit s q among k.whole i m))
      go (by_outer x i e o) =
          let find = names_of_unit p.table k.unit.unit.number k.unit.entries in
          by_names q (leads_to (outer_use find x) names q
          (in_names all p p.units k.unit (outer_use find x) among (subst (IsIn (outer_use find x)) (sym (whole_names k.unit k.whole)) (in_right (outer_use find x) (import_uses all p.units k.unit.unit.specs) (all_export_uses find k.unit.unit.exports) (in_exports find k.unit.unit.exports x i e)))) o refl)

  leads_more : (es : List Entry) → EntriesHave (IsPlace p.units p.table) es → EntriesHave Leads es
  leads_more es k = entries_more (IsPlace p.units p.table) Leads place_leads es k

  unit_has : (r : UnitResult) → IsIn r p.units → AllOf (UseHas Leads) (unit_names all p r)
  unit_has r i = go r.fault refl
    where
      here : r.fault ≡ None → (q : Occ) → IsGivenBy p.table r q → Leads q
      here w q g = place_leads q (record { unit = r; found = h.found r i; whole = w; given = g })

      go : (f : Option WholeFault) → r.fault ≡ f → AllOf (UseHas Leads) (cond (is_some_fault f) [] (import_uses all p.units r.unit.specs ++ all_export_uses (names_of_unit p.table r.unit.number r.entries) r.unit.exports))
      go (Some f) e = tt
      go None e =
          let find = names_of_unit p.table r.unit.number r.entries in
          all_append (UseHas Leads) (import_uses all p.units r.unit.specs) (all_export_uses find r.unit.exports)
          (import_uses_have Leads all p.units (λ n x k. leads_more x.exports (h.exports n x k)) r.unit.specs (all_from (SpecHas Leads) r.unit.specs (λ s j. spec_from Leads s (λ q m. here e q (by_second s j m)))))
          (export_uses_have Leads find
          (names_have Leads p.table r.unit.number r.entries (λ s. defined_from Leads p.table r.unit.number (λ d j u q o. here e q (by_definition d j u o)) (Written r.unit.number s)) (leads_more r.entries (h.entries r.unit.number r (h.found r i))))
          r.unit.exports (outers_from Leads r.unit.exports (λ x j s q o. here e q (by_outer x j s o))))

  names_lead : (rs : List UnitResult) → ((r : UnitResult) → IsIn r rs → IsIn r p.units) → AllOf (UseHas Leads) (program_names all p rs)
  names_lead [] i = tt
  names_lead (r ∷ rs) i = all_append (UseHas Leads) (unit_names all p r) (program_names all p rs) (unit_has r (i r (inl refl))) (names_lead rs (λ x j. i x (inr j)))

  defined_leads : (u : ℕ) (i : Ident) → DefinedHas Leads (defined_in (program_table p) u i)
  defined_leads u i = defined_from Leads (program_table p) u (λ d j s q o. by_table d j q o) i

  entries_lead : (n : ℕ) (r : UnitResult) → result_at p.units n ≡ Some r → EntriesHave Leads r.entries
  entries_lead n r e = leads_more r.entries (h.entries n r e)

  pub origins_lead : AllOf (LinkHas Leads) (links_of all p)
  origins_lead =
      let spelled = targets_linked Leads leaves (program_table p) p.units by_leaves defined_leads entries_lead in
      all_append (LinkHas Leads) (target_links leaves (program_table p) p.units uses ++ name_links names ++ links_to_themselves themselves) (macro_links live leaves (program_table p) p.units leaves)
      (all_append (LinkHas Leads) (target_links leaves (program_table p) p.units uses ++ name_links names) (links_to_themselves themselves)
      (all_append (LinkHas Leads) (target_links leaves (program_table p) p.units uses) (name_links names) (spelled uses) (names_linked Leads names (names_lead p.units (λ r i. i))))
      (themselves_linked Leads themselves by_themselves))
      (macros_linked Leads leaves (program_table p) p.units by_leaves defined_leads entries_lead live leaves by_leaves)
