-- The unit whose turn it is, broken or expanded: all units up to it are what the definition has of them.
use Rattle.std.proofs.Common.{◌≡◌, ℕ, zero, suc, ◌+◌, ◌<◌, ◌⊎◌, inl, inr, List, [], ◌∷◌, ◌++◌, true, false, cond, length, slice_get, slice_set, Option, Some, None, refl, sym, ap, ◌∙◌, subst, arith}
use Rattle.std.specs.Prelude.{◌==◌}
use Rattle.std.specs.Option.{option_map, is_some as is_there, is_none}
use Rattle.std.proofs.lemmas.List.{length-set}
use Rattle.std.proofs.lemmas.Option.{same_Some, slice_get_within}
use Rattle.scheme_model.specs.Order.{is_some}
use Rattle.scheme_model.specs.Requirements.{LibraryName, Known}
use Rattle.scheme_model.specs.Entries.{Entry}
use Rattle.scheme_model.specs.Substitution.{Table, Entries}
use Rattle.scheme_model.specs.ScopedExpansion.{ScopedState}
use Rattle.scheme_model.specs.UnitExpansion.{Formed}
use Rattle.scheme_model.specs.Program as model
use Rattle.scheme_model.specs.IncludedUnits.{Placed}
use Rattle.scheme_model.specs.Program.{Prepared, prepared, prepare, SetResult, UnitResult, result_at, is_ready, broken_result, unit_result, unit_entries, with_entries, fault_before}
use Rattle.scheme_model.specs.ScopedProgram.{ScopedProgress, scoped_start_of, scoped_start_after, scoped_unit_over, after_unit}
use Rattle.macro_uses.specs.MacroUses.{total_of}
use Rattle.macro_uses.specs.ScopedUses.{form_numbers, scoped_uses_by_fault, scoped_worked_uses}
use Rattle.syntax_tree.specs.declared.trees.Work.{Work}
use Rattle.feature_requirements.specs.Judged.{Knows}
use Rattle.unit_scopes.specs.Others.{InFront}
use Rattle.unit_scopes.specs.Searched.{searched_unit_over}
use Rattle.expansion_laws.proofs.OtherForms.{none_in_front}
use Rattle.expansion_laws.proofs.SearchedPrograms.{unit_law}
use Rattle.read_documents.specs.Broken.{told, or_fault, broken_if}
use Rattle.program_expansion.specs.UnitResults.{FindsLibraries, ComesTo, IsCome, HaveCome, so_far, with_unit, fault_by, HeadsBy, GoesOn, expanded_after, Expands, IsUpTo}
use Rattle.read_documents.specs.UnitSources.{AreSourcesOf}
use Rattle.unit_imports.specs.SetsGiven.{AreEntriesIf, AreLibraries, exports_of}
use Rattle.unit_imports.specs.declared.entries.Libraries.{Libraries}
use Rattle.document_units.specs.Turned.{turns, scoped_at}
use Rattle.read_documents.specs.declared.heads.WholeFault.{WholeFault}
use Rattle.read_documents.specs.declared.heads.WholeFault.TheVariants as fault
use Rattle.unit_imports.specs.declared.expanded.Expanded.{Expanded}
use Rattle.form_expansion.specs.declared.forms.Bench.{Bench}
use Rattle.read_documents.specs.declared.heads.Head.{Head}
use Rattle.document_units.specs.declared.listing.Units.{Units}
use Rattle.program_expansion.specs.UsesInTurn.{uses_at}
use Rattle.program_expansion.proofs.TurnUses.{uses_push}
use Rattle.read_documents.proofs.ChangedLaws.{set_cases}
use Rattle.program_expansion.proofs.TurnCited.{TurnOf, turn_of, turn_broken, turn_expanded}
use Rattle.program_expansion.proofs.UnitGoes.{IsOfUnit, searched_goes}
use Rattle.program_expansion.proofs.UpTo.{test, other_result, own_result, imports_done, done_at, AreDone, come_none, come_set, comes_own}

-- ---- faults

pub no_result : (o : Option UnitResult) → is_some o ≡ false → o ≡ None
no_result None h = refl
no_result (Some r) h = absurd cc

told_none : (o : Option model.WholeFault) (f : Option WholeFault) → f ≡ option_map told o → is_there f ≡ false → o ≡ None
told_none None f is h = refl
told_none (Some e) f is h = go (ap (λ (v : Option WholeFault). is_there v) (sym is) ∙ h)
  where
    go : true ≡ false → Some e ≡ None
    go k = absurd cc

pub told_some : (o : Option model.WholeFault) (f : Option WholeFault) → f ≡ option_map told o → is_there f ≡ true → (e : model.WholeFault) × (o ≡ Some e)
told_some None f is h = go (ap (λ (v : Option WholeFault). is_there v) (sym is) ∙ h)
  where
    go : false ≡ true → (e : model.WholeFault) × (None ≡ Some e)
    go k = absurd cc
told_some (Some e) f is h = (e, refl)

too_large : (p : Prepared) (imports : List Entry × List SetResult) (table : Table) (o : Option (List Formed)) (f : model.WholeFault) → unit_result p imports table o ≡ broken_result (unit_result p imports table o).unit f → (unit_result p imports table o).fault ≡ Some model.TooLarge
too_large p imports table None f h = refl
too_large p imports table (Some fs) f h = go (ap (λ (r : UnitResult). r.fault) h)
  where
    go : None ≡ Some f → None ≡ Some model.TooLarge
    go k = absurd cc

-- a head that wasn't broken is now where nothing came of its unit
now_broken : (us : List Placed) (q : model.Program) (work : Work) (p : Prepared) (imports : List Entry × List SetResult) (table : Table) (o : Option (List Formed)) (hd : Head) (came : Option Expanded) → hd.fault ≡ None →
    ComesTo us q work came (unit_result p imports table o) → (broken_if (is_none came) fault.TooLarge hd).fault ≡ option_map told (unit_result p imports table o).fault
now_broken us q work p imports table o hd None none h = ap (λ (f : Option WholeFault). or_fault f fault.TooLarge) none ∙ sym (ap (option_map told) (too_large p imports table o h.0 h.1))
now_broken us q work p imports table o hd (Some c) none h = none ∙ sym (ap (option_map told) h.whole)

none_there : (f : Option WholeFault) → is_there f ≡ false → f ≡ None
none_there None h = refl
none_there (Some e) h = absurd cc

-- ---- heads

module _ (us : List Placed) (g k : ScopedProgress) (n : ℕ) (u : Placed) (there : slice_get us n ≡ Some u) (r : UnitResult) (own : r.unit.number ≡ n) (new : is_some (result_at g.results r.unit.number) ≡ false) (next : k.results ≡ r ∷ g.results)
    (hs : List Head) (by : HeadsBy us g hs) where
  heads_set : (hd : Head) → hd.fault ≡ option_map told r.fault → HeadsBy us k (slice_set hs n hd)
  heads_set hd here m v h at head = go (set_cases hs n hd m h head) (test r.unit.number m (r.unit.number == m) refl)
    where
      mine : m ≡ n → h ≡ hd → h.fault ≡ option_map told (fault_by us (result_at k.results m) (prepared us m v))
      mine e same =
          ap (λ (x : Head). x.fault) same ∙ here
          ∙ sym (ap (λ (o : Option UnitResult). option_map told (fault_by us o (prepared us m v))) (ap (λ (ts : List UnitResult). result_at ts m) next ∙ own_result g.results r new m (own ∙ sym e)))

      go : ((m ≡ n) × (h ≡ hd)) ⊎ ((m ≡ n → ⊥) × (slice_get hs m ≡ Some h)) → (r.unit.number ≡ m) ⊎ ((r.unit.number == m) ≡ false) → h.fault ≡ option_map told (fault_by us (result_at k.results m) (prepared us m v))
      go (inl e) t = mine e.0 e.1
      go (inr e) (inl t) = absurd (e.0 (sym t ∙ own))
      go (inr e) (inr t) =
          by m v h at e.1 ∙ sym (ap (λ (o : Option UnitResult). option_map told (fault_by us o (prepared us m v))) (ap (λ (ts : List UnitResult). result_at ts m) next ∙ other_result g.results r new m t))

  heads_kept : (hd : Head) → slice_get hs n ≡ Some hd → hd.fault ≡ option_map told r.fault → HeadsBy us k hs
  heads_kept hd place here m v h at head = go (test r.unit.number m (r.unit.number == m) refl)
    where
      go : (r.unit.number ≡ m) ⊎ ((r.unit.number == m) ≡ false) → h.fault ≡ option_map told (fault_by us (result_at k.results m) (prepared us m v))
      go (inl t) =
          let same : h ≡ hd = same_Some h hd (sym head ∙ (ap (slice_get hs) (sym t ∙ own) ∙ place)) in
          ap (λ (x : Head). x.fault) same ∙ here ∙ sym (ap (λ (o : Option UnitResult). option_map told (fault_by us o (prepared us m v))) (ap (λ (ts : List UnitResult). result_at ts m) next ∙ own_result g.results r new m t))
      go (inr t) =
          by m v h at head ∙ sym (ap (λ (o : Option UnitResult). option_map told (fault_by us o (prepared us m v))) (ap (λ (ts : List UnitResult). result_at ts m) next ∙ other_result g.results r new m t))

-- ---- libraries

module _ (spelled : LibraryName → List ℕ) (us : List Placed) (g : ScopedProgress) (work : Work) (c : Libraries) (finds : FindsLibraries spelled us c.firsts.now) (come : HaveCome us g work c.expanded.now) (long : length c.expanded.now ≡ length us)
    (done : AreDone us g.results) where
  there_none : (r : UnitResult) (f : model.WholeFault) → r ≡ broken_result r.unit f → model.exports_if (Some r) ≡ None
  there_none r f h = ap (λ (o : Option model.WholeFault). cond (is_some o) None (Some r.exports)) (ap (λ (q : UnitResult). q.fault) h)

  there_some : (r : UnitResult) → r.fault ≡ None → model.exports_if (Some r) ≡ Some r.exports
  there_some r h = ap (λ (o : Option model.WholeFault). cond (is_some o) None (Some r.exports)) h

  exports_at_place : (n : ℕ) (e : Option (Option Expanded)) → slice_get c.expanded.now n ≡ e → (o : Option UnitResult) → result_at g.results n ≡ o → ((v : Option Expanded) → e ≡ Some v → IsCome us (so_far g) work v o) →
      AreEntriesIf work.symbols (exports_of e) (model.exports_if o)
  exports_at_place n None at None is h = refl
  exports_at_place n None at (Some r) is h = absurd (beyond c.expanded.now n at (let d = done n r is in let lt = slice_get_within us n d.unit d.there in omega arith))
    where
      beyond : (es : List (Option Expanded)) (n : ℕ) → slice_get es n ≡ None → n < length es → ⊥
      beyond [] n at lt = absurd (omega arith)
      beyond (e ∷ es) zero at lt = absurd cc
      beyond (e ∷ es) (suc n) at lt = beyond es n at (omega arith)
  exports_at_place n (Some v) at None is h = subst (λ (w : Option Expanded). AreEntriesIf work.symbols (exports_of (Some w)) None) (sym (h v refl)) refl
  exports_at_place n (Some None) at (Some r) is h = let b = h None refl in there_none r b.0 b.1
  exports_at_place n (Some (Some e)) at (Some r) is h = let b = h (Some e) refl in (r.exports, there_some r b.whole, b.exports)

  pub libraries_of : AreLibraries work.symbols c spelled us g.results
  libraries_of = record {
    spells = finds.spells;
    units = finds.units;
    exports = λ n. exports_at_place n (slice_get c.expanded.now n) refl (result_at g.results n) refl (λ v at. come n v at);
  }

-- ---- the next unit

module _ (spelled : LibraryName → List ℕ) (us : List Placed) (known : Known) (x y : List ℕ) (n : ℕ) (order : turns us ≡ x ++ n ∷ y) (b : Bench) (units : Units) (es : List (Option Expanded)) (up : IsUpTo spelled us known x b units es)
    (hd : Head) (place : slice_get units.heads.items n ≡ Some hd) where
  abbrev g : ScopedProgress
  g = scoped_at us known x

  abbrev turn : TurnOf us known x n
  turn = turn_of us known x y n order

  abbrev p : Prepared
  p = prepared us n turn.unit

  pub before : hd.fault ≡ option_map told (fault_before us (prepare us 0 us) p)
  before = up.heads n turn.unit hd turn.there place ∙ ap (λ (o : Option UnitResult). option_map told (fault_by us o p)) (no_result (result_at g.results n) turn.fresh)

  pub broken_next : is_there hd.fault ≡ true → IsUpTo spelled us known (x ++ n ∷ []) b units es
  broken_next h =
      let e = told_some (fault_before us (prepare us 0 us) p) hd.fault before h in
      let r = broken_result p e.0 in
      let k : ScopedProgress = record g { results = r ∷ g.results } in
      let is : scoped_at us known (x ++ n ∷ []) ≡ k = turn_broken us known x n turn e.0 e.1 in
      let c = up.goes.continues in
      let o = up.goes.outside in
      let f = up.goes.is in
      record {
        knows = up.knows;
        goes = subst (λ (q : ScopedProgress). GoesOn b q) (sym is)
            (record {
              outside = record o { results = k.results };
              is = record { table = f.table; macros = f.macros; places = f.places; definitions = f.definitions; entry = f.entry; results = refl };
              layout = up.goes.layout;
              state = up.goes.state;
              notes = up.goes.notes;
              stands = up.goes.stands;
              continues = record { table = c.table; macros = c.macros; places = c.places; definitions = c.definitions; entry = c.entry };
            });
        come = subst (λ (q : ScopedProgress). HaveCome us q b.work es) (sym is)
            (come_none us g.results n turn.unit turn.there r refl turn.fresh (λ none. absurd cc) (done_at us known x (n ∷ y) order) b.work g k refl refl (none_in_front (IsOfUnit n) g.table) es up.come (e.0, refl));
        heads = subst (λ (q : ScopedProgress). HeadsBy us q units.heads.items) (sym is)
            (heads_kept us g k n turn.unit turn.there r refl turn.fresh refl units.heads.items up.heads hd place (before ∙ ap (option_map told) e.1));
        sources = up.sources;
        count = up.count;
      }

  -- a broken unit begins no macro use
  pub broken_uses : is_there hd.fault ≡ true → uses_at us known (x ++ n ∷ []) ≡ uses_at us known x
  broken_uses h =
      let e = told_some (fault_before us (prepare us 0 us) p) hd.fault before h in
      uses_push us known x n
      ∙ (ap (λ (o : Option Prepared). uses_at us known x + scoped_worked_uses us (prepare us 0 us) known o g) turn.place
      ∙ (ap (λ (f : Option model.WholeFault). uses_at us known x + scoped_uses_by_fault us known p f g) e.1
      ∙ none_more (uses_at us known x)))
    where
      none_more : (m : ℕ) → m + 0 ≡ m
      none_more m = omega arith

  module _ (whole : is_there hd.fault ≡ false) where
    pub none_before : fault_before us (prepare us 0 us) p ≡ None
    none_before = told_none (fault_before us (prepare us 0 us) p) hd.fault before whole

    abbrev imports : List Entry × List SetResult
    imports = unit_entries us g.results p

    abbrev gone : Option (List Formed) × ScopedState
    gone = expanded_after known g p imports.0

    -- it comes to the same where definitions go through few notes
    searched : scoped_unit_over known p (scoped_start_after us p g) ≡ gone
    searched =
        sym (subst (λ (q : ScopedProgress). is_ready us (prepare us 0 us) q.results p ≡ true → searched_unit_over known p (scoped_start_after us p q) ≡ scoped_unit_over known p (scoped_start_after us p q)) turn.reached
        (unit_law us (prepare us 0 us) known (length x) p) turn.ready)

    -- it counts what its forms do
    pub expanded_uses : uses_at us known (x ++ n ∷ []) ≡ uses_at us known x + total_of gone.1.uses (form_numbers p)
    expanded_uses =
        uses_push us known x n
        ∙ (ap (λ (o : Option Prepared). uses_at us known x + scoped_worked_uses us (prepare us 0 us) known o g) turn.place
        ∙ (ap (λ (f : Option model.WholeFault). uses_at us known x + scoped_uses_by_fault us known p f g) none_before
        ∙ ap (λ (q : Option (List Formed) × ScopedState). uses_at us known x + total_of q.1.uses (form_numbers p)) searched))

    abbrev entry : Entries
    entry = with_entries p.number imports.0 g.entry

    abbrev k : ScopedProgress
    k = after_unit p imports entry g.results gone

    pub reaches : scoped_at us known (x ++ n ∷ []) ≡ k
    reaches = turn_expanded us known x n turn none_before ∙ ap (after_unit p imports entry g.results) searched

    abbrev r : UnitResult
    r = unit_result p imports gone.1.table gone.0

    unit_of : (table : Table) (o : Option (List Formed)) → (unit_result p imports table o).unit ≡ p
    unit_of table None = refl
    unit_of table (Some fs) = refl

    pub is : r.unit ≡ p
    is = unit_of gone.1.table gone.0

    ready : r.fault ≡ None → model.all_done g.results r.unit.imports ≡ true
    ready none = subst (λ (q : Prepared). model.all_done g.results q.imports ≡ true) (sym is) (imports_done us known x n turn none_before)

    pub own : r.unit.number ≡ n
    own = ap (λ (q : Prepared). q.number) is

    pub front : InFront (IsOfUnit n) g.table gone.1.table
    front = (searched_goes known p (scoped_start_of p g entry)).table

    pub expanded_next : (c : Bench) (v : Units) (from to : ℕ) (came : Option Expanded) → Knows c.scope.libraries known → HaveCome us g c.work es → Expands us known c g p imports from to came → v.sources ≡ units.sources →
        v.heads.items ≡ slice_set units.heads.items n (broken_if (is_none came) fault.TooLarge hd) → IsUpTo spelled us known (x ++ n ∷ []) c v (slice_set es n came)
    expanded_next c v from to came knows come expands sources heads =
        let done = done_at us known x (n ∷ y) order in
        let fresh : is_some (result_at g.results r.unit.number) ≡ false = ap (λ m. is_some (result_at g.results m)) own ∙ turn.fresh in
        let here : ComesTo us (so_far k) c.work came r = comes_own us g.results n turn.unit turn.there r is turn.fresh ready done c.work (with_unit g gone.1) (so_far k) refl refl refl came expands.comes in
        record {
          knows = knows;
          goes = subst (λ (q : ScopedProgress). GoesOn c q) (sym reaches) expands.goes;
          come = subst (λ (q : ScopedProgress). HaveCome us q c.work (slice_set es n came)) (sym reaches) (come_set us g.results n turn.unit turn.there r is turn.fresh ready done c.work g k refl refl front es come came here);
          heads = subst (λ (q : ScopedProgress). HeadsBy us q v.heads.items) (sym reaches)
              (subst (λ (hs : List Head). HeadsBy us k hs) (sym heads)
              (heads_set us g k n turn.unit turn.there r own fresh refl units.heads.items up.heads (broken_if (is_none came) fault.TooLarge hd)
              (now_broken us (with_unit g gone.1) c.work p imports gone.1.table gone.0 hd came (none_there hd.fault whole) expands.comes)));
          sources = subst (λ ss. AreSourcesOf spelled us ss) (ap (λ ss. ss.items) (sym sources)) up.sources;
          count = length-set es n came ∙ up.count;
        }
