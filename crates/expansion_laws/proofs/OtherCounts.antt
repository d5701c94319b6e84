-- What another form has counted, met and defined stands for the same after a step, and definitions stay in the order of their forms.
use Rattle.std.proofs.Common.{◌≡◌, ℕ, suc, ◌≤◌, ◌<◌, List, [], ◌∷◌, ◌++◌, reverse, cond, refl, sym, ap, ◌∙◌, subst, arith, eq-eqb}
use Rattle.std.proofs.lemmas.Bool.{ne_eqb}
use Rattle.scheme_model.specs.Meaning as model
use Rattle.scheme_model.specs.Cores.{Target, MacroUse}
use Rattle.scheme_model.specs.Substitution.{Defined}
use Rattle.scheme_model.specs.ScopedExpansion.{ScopedState}
use Rattle.syntax_tree.specs.Names.{Names, KeepsNames}
use Rattle.syntax_tree.specs.Meant.{IsMeaning}
use Rattle.syntax_tree.specs.declared.meaning.Meaning.{Meaning}
use Rattle.syntax_tree.specs.declared.meaning.Meaning.TheVariants as code
use Rattle.syntax_tree.specs.declared.trees.Work.{Work}
use Rattle.core_tree.specs.Names.{AllMatch, IsTarget, IsUse}
use Rattle.core_tree.specs.Units.{defined_by}
use Rattle.core_tree.specs.declared.cores.Binder as code_binder
use Rattle.core_tree.specs.declared.cores.Target as code_target
use Rattle.core_tree.specs.declared.traces.MacroUse as code_use
use Rattle.core_tree.specs.declared.traces.Trace.{Trace}
use Rattle.unit_scopes.specs.Others.{Each, IsOf, OthersStay, InOrder}
use Rattle.unit_scopes.specs.State.{numbered_in, IsNumbered}
use Rattle.unit_scopes.specs.Units.{CountsFor}
use Rattle.unit_scopes.specs.declared.scope.Budget.{Budget}
use Rattle.unit_scopes.proofs.NumberedLaws.{numbered_else}

-- ---- names are added

matches_on : {X Y : Type 0} (P Q : X → Y → Type 0) → ((x : X) (y : Y) → P x y → Q x y) → (xs : List X) (ys : List Y) → AllMatch P xs ys → AllMatch Q xs ys
matches_on P Q on [] [] h = h
matches_on P Q on [] (y ∷ ys) h = h
matches_on P Q on (x ∷ xs) [] h = h
matches_on P Q on (x ∷ xs) (y ∷ ys) h = (on x y h.0, matches_on P Q on xs ys h.1)

module _ (old new : Names) (names : KeepsNames old new) (unit form : ℕ) where
  meaning_on : (m : Meaning) (d : model.Meaning) → IsMeaning old unit form m d → IsMeaning new unit form m d
  meaning_on (code.Local n) d h = h
  meaning_on (code.Global u n) (model.Local v) h = h
  meaning_on (code.Global u n) (model.Global w i) h = (h.0, names.idents n i h.1)
  meaning_on (code.Global u n) (model.Standard s) h = h
  meaning_on (code.Global u n) (model.Free s) h = h
  meaning_on (code.Standard n) (model.Local v) h = h
  meaning_on (code.Standard n) (model.Global w i) h = h
  meaning_on (code.Standard n) (model.Standard s) h = names.symbols n s h
  meaning_on (code.Standard n) (model.Free s) h = h
  meaning_on (code.Free n) (model.Local v) h = h
  meaning_on (code.Free n) (model.Global w i) h = h
  meaning_on (code.Free n) (model.Standard s) h = h
  meaning_on (code.Free n) (model.Free s) h = names.symbols n s h

  target_on : (t : code_target.Target) (m : Target) → IsTarget old unit form t m → IsTarget new unit form t m
  target_on t m h = record { meaning = meaning_on t.meaning m.meaning h.meaning; ident = names.idents t.ident m.ident h.ident; place = h.place }

  pub use_on : (u : code_use.MacroUse) (m : MacroUse) → IsUse old unit form u m → IsUse new unit form u m
  use_on u m h = record { keyword = target_on u.keyword m.keyword h.keyword; literals = matches_on (IsTarget old unit form) (IsTarget new unit form) target_on u.literals.items m.literals h.literals }

  binder_on : (b : code_binder.Binder) (d : ℕ × Defined) → IsNumbered old form b d → IsNumbered new form b d
  binder_on b d h = record { form = h.form; number_is = h.number_is; ident = names.idents b.ident d.1.ident h.ident; place = h.place }

-- ---- definitions of one form are put in front

else_numbered : (unit own form m : ℕ) → (m ≡ form → ⊥) → (front table : List Defined) → Each (IsOf own form) front → numbered_in unit m (front ++ table) ≡ numbered_in unit m table
else_numbered unit own form m apart [] table h = refl
else_numbered unit own form m apart (d ∷ ds) table h = numbered_else unit m d (ds ++ table) (ne_eqb d.form m (λ same. apart (sym same ∙ h.0.1))) ∙ else_numbered unit own form m apart ds table h.1

own_front : (unit form : ℕ) (front table : List Defined) → Each (IsOf unit form) front → defined_by unit (front ++ table) ≡ front ++ defined_by unit table
own_front unit form [] table h = refl
own_front unit form (d ∷ ds) table h =
    ap (λ b. cond b (d ∷ defined_by unit (ds ++ table)) (defined_by unit (ds ++ table))) (eq-eqb d.unit unit h.0.0) ∙ ap (λ (es : List Defined). d ∷ es) (own_front unit form ds table h.1)

abbrev InFormOrder : (first behind : ℕ) → List Defined → Type 0
InFormOrder first behind ds = InOrder (λ (d : Defined). d.form) first behind ds

order_later : (first behind later : ℕ) → behind ≤ later → (ds : List Defined) → InFormOrder first behind ds → InFormOrder first later ds
order_later first behind later le [] h = tt
order_later first behind later le (d ∷ ds) h = let low : d.form < behind = h.1 in (h.0, omega (arith, low, le), h.2)

order_front : (unit first form : ℕ) → first ≤ form → (front ds : List Defined) → Each (IsOf unit form) front → InFormOrder first (suc form) ds → InFormOrder first (suc form) (front ++ ds)
order_front unit first form le [] ds h order = order
order_front unit first form le (d ∷ more) ds h order =
    let same : d.form ≡ form = h.0.1 in
    (omega (arith, same, le), omega (arith, same), subst (λ (n : ℕ). InFormOrder first (suc n) (more ++ ds)) (sym same) (order_front unit first form le more ds h.1 order))

-- ---- a step of a form

module _ (form : ℕ) (s t : ScopedState) (stay : OthersStay form s t) where
  pub others_count : (old new : Work) (m : ℕ) (b : Budget) (trace : Trace) → (m ≡ form → ⊥) → KeepsNames old.symbols new.symbols → CountsFor old s m b trace → CountsFor new t m b trace
  others_count old new m b trace apart names h =
      let c = stay.counts m apart in
      let same : numbered_in t.unit m t.table ≡ numbered_in s.unit m s.table =
      ap (λ (u : ℕ). numbered_in u m t.table) stay.unit ∙ (ap (numbered_in s.unit m) stay.table.whole ∙ else_numbered s.unit s.unit form m apart stay.table.front s.table stay.table.each) in
      record {
        number = h.number;
        locals = h.locals ∙ sym c.locals;
        uses = h.uses ∙ sym c.uses;
        nodes = h.nodes ∙ sym c.nodes;
        few_uses = h.few_uses;
        few_nodes = h.few_nodes;
        few_locals = h.few_locals;
        definitions = matches_on (IsNumbered old.symbols m) (IsNumbered new.symbols m) (binder_on old.symbols new.symbols names s.unit m) (reverse trace.definitions) (numbered_in t.unit m t.table)
            (subst (λ (ds : List (ℕ × Defined)). AllMatch (IsNumbered old.symbols m) (reverse trace.definitions) ds) (sym same) h.definitions);
        keywords = subst (λ (u : ℕ). AllMatch (IsTarget new.symbols u m) trace.keywords (reverse (t.keywords m))) (sym stay.unit)
            (matches_on (IsTarget old.symbols s.unit m) (IsTarget new.symbols s.unit m) (target_on old.symbols new.symbols names s.unit m) trace.keywords (reverse (t.keywords m))
            (subst (λ (ks : List Target). AllMatch (IsTarget old.symbols s.unit m) trace.keywords (reverse ks)) (sym c.keywords) h.keywords));
        met = subst (λ (u : ℕ). AllMatch (IsUse new.symbols u m) trace.uses (reverse (t.met m))) (sym stay.unit)
            (matches_on (IsUse old.symbols s.unit m) (IsUse new.symbols s.unit m) (use_on old.symbols new.symbols names s.unit m) trace.uses (reverse (t.met m))
            (subst (λ (us : List MacroUse). AllMatch (IsUse old.symbols s.unit m) trace.uses (reverse us)) (sym c.met) h.met));
      }

  pub order_stays : (first behind : ℕ) → first ≤ form → behind ≤ suc form → InFormOrder first behind (defined_by s.unit s.table) → InFormOrder first (suc form) (defined_by t.unit t.table)
  order_stays first behind low high order =
      subst (InFormOrder first (suc form))
      (sym (ap (λ (u : ℕ). defined_by u t.table) stay.unit ∙ (ap (defined_by s.unit) stay.table.whole ∙ own_front s.unit form stay.table.front s.table stay.table.each)))
      (order_front s.unit first form low stay.table.front (defined_by s.unit s.table) stay.table.each (order_later first behind (suc form) high (defined_by s.unit s.table) order))
