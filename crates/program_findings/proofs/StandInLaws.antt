-- The identifiers of forms are among the names.
use Rattle.std.proofs.Common.{◌≡◌, ◌<◌, ℕ, zero, suc, inl, inr, List, [], ◌∷◌, length, slice_get, get_or, Option, Some, None, Result, Ok, Err, sym, ap, subst, ◌∙◌}
use Rattle.std.proofs.lemmas.Option.{slice_get_within, slice_get-get_or}
use Rattle.std.specs.Option.{option_map}
use Rattle.scheme_model.specs.Ident.{Ident as Identifier, Written, symbol_of}
use Rattle.scheme_model.specs.Cores.{Parts}
use Rattle.scheme_model.specs.Steps.{Broken}
use Rattle.scheme_model.specs.Order.{Counted}
use Rattle.scheme_model.specs.ExpansionFaults.{Named, fault_name}
use Rattle.scheme_model.specs.UnitExpansion.{Formed}
use Rattle.syntax_tree.specs.declared.trees.Work.{Work}
use Rattle.syntax_tree.specs.Names.{Names}
use Rattle.scheme_model.specs.Live.{unit_leaves}
use Rattle.core_tree.specs.Names.{AllMatch}
use Rattle.core_tree.specs.declared.cores.Target.{Target}
use Rattle.program_findings.specs.Unbound.{IsUnbound, unbound_in}
use Rattle.core_tree.specs.Traces.{IsNamedBy}
use Rattle.core_tree.specs.Units.{FormsStand, IsResult}
use Rattle.core_tree.specs.declared.traces.FormFault.{FormFault}
use Rattle.core_tree.specs.declared.units.UnitForm.{UnitForm}
use Rattle.program_findings.specs.StandIn.{StandIn}
use Rattle.scheme_model.specs.Meaning.{Meaning, Local, Global, Standard, Free}
use Rattle.syntax_tree.specs.Meant.{IsMeaning}
use Rattle.syntax_tree.specs.declared.meaning.Meaning as code_meaning
use Rattle.syntax_tree.specs.declared.meaning.Meaning.TheVariants as code

abbrev FaultNamed : Names → UnitForm → Type 0
FaultNamed names c = (f : FormFault) (i : ℕ) → c.fault ≡ Some f → f.name ≡ Some i → (n : Identifier) × (slice_get names.idents i ≡ Some n)

by_name : (names : Names) (o : Option ℕ) (m : Option (Named Identifier)) (i : ℕ) → IsNamedBy names o m → o ≡ Some i → (n : Identifier) × (slice_get names.idents i ≡ Some n)
by_name names None m i h is = cc
by_name names (Some j) None i h is = absurd h
by_name names (Some j) (Some n) i h is = let same : j ≡ i = cc in (n.name, ap (slice_get names.idents) (sym same) ∙ h)

blank_named : (names : Names) (c : UnitForm) → c.fault ≡ None → FaultNamed names c
blank_named names c none = λ f i has named. absurd cc

of_result : (work : Work) (unit form : ℕ) (c : UnitForm) (r : Result Parts Broken) (met : Counted) → IsResult work unit form c r met → FaultNamed work.symbols c
of_result work unit form c (Ok ps) met is = blank_named work.symbols c is.whole
of_result work unit form c (Err e) met is = λ f i has named.
    let same : is.0 ≡ f = (let eq : Some is.0 ≡ Some f = sym is.1 ∙ has in cc) in
    by_name work.symbols is.0.name (fault_name e.fault) i is.2.name (ap (λ (x : FormFault). x.name) same ∙ named)

moved : (names : Names) (b c : UnitForm) → b ≡ c → FaultNamed names b → FaultNamed names c
moved names b c same h = subst (λ (x : UnitForm). FaultNamed names x) same h

named_at : (work : Work) (unit form : ℕ) (cs : List UnitForm) (fs : List Formed) → FormsStand work unit form cs fs → (n : ℕ) (c : UnitForm) → slice_get cs n ≡ Some c → FaultNamed work.symbols c
named_at work unit form [] [] are n c at = cc
named_at work unit form [] (f ∷ fs) are n c at = absurd are
named_at work unit form (b ∷ cs) [] are zero c at = moved work.symbols b c (let e : b ≡ c = cc in e) (blank_named work.symbols b are.0.fault)
named_at work unit form (b ∷ cs) [] are (suc n) c at = named_at work unit (suc form) cs [] are.1 n c at
named_at work unit form (b ∷ cs) (f ∷ fs) (inl q) zero c at = moved work.symbols b c (let e : b ≡ c = cc in e) (blank_named work.symbols b q.0.fault)
named_at work unit form (b ∷ cs) (f ∷ fs) (inl q) (suc n) c at = named_at work unit (suc form) cs (f ∷ fs) q.2 n c at
named_at work unit form (b ∷ cs) (f ∷ fs) (inr q) zero c at = moved work.symbols b c (let e : b ≡ c = cc in e) (of_result work unit form b f.result f.counted q.1)
named_at work unit form (b ∷ cs) (f ∷ fs) (inr q) (suc n) c at = named_at work unit (suc form) cs fs q.2 n c at

-- the name of a form's fault
pub fault_is_named : (names : Names) (cs : List UnitForm) → StandIn names cs → (n : ℕ) (c : UnitForm) (f : FormFault) (i : ℕ) → slice_get cs n ≡ Some c → c.fault ≡ Some f → f.name ≡ Some i → i < length names.idents
fault_is_named names cs are n c f i at has named =
    let q = named_at are.work are.unit 0 cs are.formed are.stand n c at f i has named in
    slice_get_within names.idents i q.0 (are.kept.idents i q.0 q.1)

option_some : {A B : Type 0} (f : A → B) (o : Option A) (a : A) (n : ℕ) (xs : List B) → o ≡ Some a → slice_get xs n ≡ option_map f o → n < length xs
option_some f o a n xs is at = slice_get_within xs n (f a) (at ∙ ap (option_map f) is)

-- the symbol of an identifier that there is is there
pub symbol_within : (names : Names) (id s : ℕ) → id < length names.idents → slice_get names.symbols s ≡ option_map symbol_of (slice_get names.idents id) → s < length names.symbols
symbol_within names id s lt at = option_some symbol_of (slice_get names.idents id) (get_or names.idents id (Written 0 [])) s names.symbols (slice_get-get_or names.idents id (Written 0 []) lt) at

matched : {X Y : Type 0} (P : X → Y → Type 0) (xs : List X) (ys : List Y) → AllMatch P xs ys → (n : ℕ) (x : X) → slice_get xs n ≡ Some x → (y : Y) × P x y
matched P [] [] h n x at = cc
matched P [] (y ∷ ys) h n x at = absurd h
matched P (z ∷ xs) [] h n x at = absurd h
matched P (z ∷ xs) (y ∷ ys) h zero x at = let same : z ≡ x = cc in (y, subst (λ w. P w y) same h.0)
matched P (z ∷ xs) (y ∷ ys) h (suc n) x at = matched P xs ys h.1 n x at

free_there : (names : Names) (n : ℕ) (m : Meaning) → IsMeaning names 0 0 (code.Free n) m → (t : List ℕ) × (slice_get names.symbols n ≡ Some t)
free_there names n (Local v) h = absurd h
free_there names n (Global u i) h = absurd h
free_there names n (Standard s) h = absurd h
free_there names n (Free s) h = (s, h)

-- what a use that means nothing is called is among the symbols
pub free_is_named : (names : Names) (cs : List UnitForm) (ts : List Target) → StandIn names cs →
    ((work : Work) (unit : ℕ) (rs : List Formed) → FormsStand work unit 0 cs rs → AllMatch (IsUnbound work.symbols) ts (unbound_in (unit_leaves rs))) →
    (n : ℕ) (t : Target) (symbol : ℕ) → slice_get ts n ≡ Some t → t.meaning ≡ code.Free symbol → symbol < length names.symbols
free_is_named names cs ts are says n t symbol at is =
    let q = matched (IsUnbound are.work.symbols) ts (unbound_in (unit_leaves are.formed)) (says are.work are.unit are.formed are.stand) n t at in
    let s = free_there are.work.symbols symbol q.0.meaning (subst (λ (m : code_meaning.Meaning). IsMeaning are.work.symbols 0 0 m q.0.meaning) is (q.1.meaning 0 0)) in
    slice_get_within names.symbols symbol s.0 (are.kept.symbols symbol s.0 s.1)
