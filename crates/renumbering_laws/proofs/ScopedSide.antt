-- Expansion by scopes, where a local is told by its count alone, under old numbers and under new ones.
use Rattle.std.proofs.Common.{◌≡◌, ℕ, suc, ◌+◌, List, [], ◌∷◌, map, Bool, true, false, cond, Option, Some, None, Result, Ok, Err, refl, sym, ap, ◌∙◌, subst, arith, eq-eqb}
use Rattle.std.specs.Prelude.{◌&&◌, ◌==◌}
use Rattle.scheme_model.specs.Identifiers.{Number, same_number}
use Rattle.scheme_model.specs.Ident.{Ident, Written, Inserted, same_ident, symbol_of}
use Rattle.scheme_model.specs.ExpansionFaults.{Named, Fault, KeywordRedefined, Duplicate}
use Rattle.scheme_model.specs.Meaning.{Meaning, Local, Global, Standard, Free, same_meaning, of_form}
use Rattle.scheme_model.specs.Requirements.{Known}
use Rattle.scheme_model.specs.RulesShape.{Rules, option_map}
use Rattle.scheme_model.specs.Cores.{LocalNumber, Definition}
use Rattle.scheme_model.specs.Order.{Pending, Renamed, Region, Transformer, is_some}
use Rattle.scheme_model.specs.Substitution.{Defined, Table, Entries, Clock, at_form, defined_in, definition_count, is_variable, any, unchanged}
use Rattle.scheme_model.specs.Scopes.{own_of, given_or, imported_as, defined_or}
use Rattle.scheme_model.specs.ScopedExpansion.{Bind, Enter, Frames, FramedIdent, BodyDefinition, BodyDefinitions, UsePlace, ScopedMacro, ScopedState, next_number, around, find, defined_as as local_defined, means_inside, means_outside, means_at, macro_at, macro_added, body_around, bound_next, assigned, definition_added, meaning_next, is_defined}
use Rattle.scheme_model.specs.CountedExpansion.{means_here, refused_here, define_here, counted}
use Rattle.scheme_model.proofs.RenamingLaws.{cond_map}
use Rattle.renumbering_laws.specs.Moving.{Change, move_named, move_rules}
use Rattle.renumbering_laws.specs.Renumbering.{Renumbering, IsOneToOne, number, place, ident, meaning, change, target, bound, macro_use_as, counted_as, pending_as}
use Rattle.renumbering_laws.specs.States.{defined_as, AtForms, ClocksMove, TablesMove, EntriesMove, CountsOn, DefinedAlike}
use Rattle.renumbering_laws.specs.ScopedStates.{IsOnto, frames_as, framed_as, transformer_as, PlacesMove, ScopedMacrosMove, found_number, FindsMove, ScopedMove}
use Rattle.renumbering_laws.proofs.Sides.{no_macro, a_macro, regions, DefinedMoves, Sides, Macros, Regions}
use Rattle.renumbering_laws.proofs.OneToOne.{number_moved, ident_moved, same_moved}
use Rattle.renumbering_laws.proofs.NameLaws.{some_kept, at_forms_step, any_moved, variable_moved, table_step}

pub symbol_moved : (r : Renumbering) (i : Ident) → symbol_of (ident r i) ≡ symbol_of i
symbol_moved r (Written u s) = refl
symbol_moved r (Inserted i k) = symbol_moved r i

-- ---- what identifiers mean

pub given_moved : (r : Renumbering) (o : Option Meaning) (m m' : Meaning) → m' ≡ meaning r m → given_or (option_map (meaning r) o) m' ≡ meaning r (given_or o m)
given_moved r None m m' e = e
given_moved r (Some n) m m' e = refl

pub own_moved : (r : Renumbering) (t t' : Table) (e e' : Entries) → TablesMove r t t' → EntriesMove r e e' → (u : ℕ) (i : Ident) → own_of t' e' (r.unit u) (ident r i) ≡ option_map (meaning r) (own_of t e u i)
own_moved r t t' e e' l m u i = (let a = l u i in let b = imported i in λ j. defined_or (a j) (r.unit u) (ident r i) (b j)) ∙ go (defined_in t u i)
  where
    imported : (j : Ident) → imported_as e' (r.unit u) (ident r j) ≡ option_map (meaning r) (imported_as e u j)
    imported (Written v s) = m u s
    imported (Inserted j k) = refl

    go : (d : Option Defined) → defined_or (option_map (defined_as r) d) (r.unit u) (ident r i) (option_map (meaning r) (imported_as e u i)) ≡ option_map (meaning r) (defined_or d u i (imported_as e u i))
    go None = refl
    go (Some d) = refl

abbrev by_found : Option Number → Meaning → Meaning
by_found None other = other
by_found (Some v) other = Local v

module _ (r : Renumbering) (o : IsOneToOne r) (w : IsOnto r) where
  abbrev FramesMove : Frames → Frames → Type 0
  FramesMove e e' = e' ≡ frames_as r w e

  by_number : (q : Option (Number × BodyDefinitions)) (m : Meaning) → local_defined q m ≡ by_found (found_number r w q) m
  by_number None m = refl
  by_number (Some q) m = refl

  found_moved : (q q' : Option (Number × BodyDefinitions)) → found_number r w q' ≡ option_map (number r) (found_number r w q) → (m m' : Meaning) → m' ≡ meaning r m → local_defined q' m' ≡ meaning r (local_defined q m)
  found_moved q q' e m m' d = by_number q' m' ∙ (λ j. by_found (e j) (d j)) ∙ go (found_number r w q) ∙ ap (meaning r) (sym (by_number q m))
    where
      go : (v : Option Number) → by_found (option_map (number r) v) (meaning r m) ≡ meaning r (by_found v m)
      go None = refl
      go (Some v) = refl

  inside_moved : (ds ds' : BodyDefinitions) → FindsMove r w ds ds' → (fs : Frames) (i : Ident) (m m' : Meaning) → m' ≡ meaning r m → means_inside ds' (frames_as r w fs) (ident r i) m' ≡ meaning r (means_inside ds fs i m)
  inside_moved ds ds' l [] i m m' e = e
  inside_moved ds ds' l (Bind x v ∷ fs) i m m' e = cond_map (meaning r) (Local v) (means_inside ds fs i m) (ident_moved r o x i) refl (inside_moved ds ds' l fs i m m' e)
  inside_moved ds ds' l (Enter b c ∷ fs) i m m' e = found_moved (find ds b i) (find ds' (number r b) (ident r i)) (l b i) (means_inside ds fs i m) (means_inside ds' (frames_as r w fs) (ident r i) m') (inside_moved ds ds' l fs i m m' e)

  outside_moved : (t t' : Table) (e e' : Entries) → TablesMove r t t' → EntriesMove r e e' → (ps ps' : List UsePlace) → PlacesMove r w ps ps' → (ds ds' : BodyDefinitions) → FindsMove r w ds ds' → (i : Ident) → means_outside t' e' ps' ds' (ident r i) ≡ meaning r (means_outside t e ps ds i)
  outside_moved t t' e e' lt le ps ps' lp ds ds' ld (Written u s) = ap (λ q. given_or q (Free s)) (own_moved r t t' e e' lt le u (Written u s)) ∙ given_moved r (own_of t e u (Written u s)) (Free s) (Free s) refl
  outside_moved t t' e e' lt le ps ps' lp ds ds' ld (Inserted i k) =
      let m = means_inside ds (around ps k) i (means_outside t e ps ds i) in
      let inner = ap (λ fs. means_inside ds' fs (ident r i) (means_outside t' e' ps' ds' (ident r i))) (lp k) ∙ inside_moved ds ds' ld (around ps k) i (means_outside t e ps ds i) (means_outside t' e' ps' ds' (ident r i)) (outside_moved t t' e e' lt le ps ps' lp ds ds' ld i) in
      ap (λ q. given_or q (means_inside ds' (around ps' (number r k)) (ident r i) (means_outside t' e' ps' ds' (ident r i)))) (own_moved r t t' e e' lt le k.unit (Inserted i k)) ∙ given_moved r (own_of t e k.unit (Inserted i k)) m (means_inside ds' (around ps' (number r k)) (ident r i) (means_outside t' e' ps' ds' (ident r i))) inner

  of_form_moved : (u f : ℕ) (m : Meaning) → of_form (r.unit u) (r.form u f) (meaning r m) ≡ meaning r (of_form u f m)
  of_form_moved u f (Local v) = refl
  of_form_moved u f (Global x i) = refl
  of_form_moved u f (Standard s) = refl
  of_form_moved u f (Free s) = refl

  module _ (u : ℕ) (known : Known) where
    abbrev Moved : ScopedState → ScopedState → Type 0
    Moved s s' = ScopedMove r w u s s'

    abbrev mv : Change Ident Ident
    mv = change r

    abbrev pending_two : Pending Ident FramedIdent → Pending Ident FramedIdent
    pending_two p = pending_as r (ident r) (framed_as r w) p

    pub means_now : (s s' : ScopedState) → Moved s s' → (fs fs' : Frames) → FramesMove fs fs' → (i : Ident) → means_here s' fs' (ident r i) ≡ meaning r (means_here s fs i)
    means_now s s' l fs fs' k i =
        (let a = l.unit in let b = l.form in
        let c = ap (λ gs. means_at s' gs (ident r i)) k ∙ inside_moved s.definitions s'.definitions l.definitions fs i (means_outside s.table s.entry s.places s.definitions i) (means_outside s'.table s'.entry s'.places s'.definitions (ident r i))
        (outside_moved s.table s'.table s.entry s'.entry l.table l.entry s.places s'.places l.places s.definitions s'.definitions l.definitions i) in
        λ j. of_form (a j) (b j) (c j)) ∙ of_form_moved s.unit s.form (means_at s fs i)

    -- what is defined since is the same, renumbered
    abbrev Grow : ScopedState → ScopedState → ScopedState → ScopedState → Type 0
    Grow s s' t t' = (from from' : Table) → DefinedAlike r from from' s.table s'.table → DefinedAlike r from from' t.table t'.table

    still : (s s' : ScopedState) → Grow s s' s s'
    still s s' from from' g = g

    -- what comes of a definition on both sides
    abbrev Defines : ScopedState → ScopedState → Result (Renamed Ident FramedIdent) (Fault Ident) × ScopedState → Result (Renamed Ident FramedIdent) (Fault Ident) × ScopedState → Type 0
    Defines s s' q q' = DefinedMoves r (ident r) (framed_as r w) q.0 q'.0 × Moved q.1 q'.1 × Grow s s' q.1 q'.1

    -- ---- numbers

    now : {X Y : Type 0} (g : X → Y) (s s' : ScopedState) → Moved s s' → (c : ℕ → X) (d : ℕ → Y) → AtForms r s.unit g c d → d s'.form ≡ g (c s.form)
    now g s s' l c d e = ap d l.form ∙ e s.form

    pub number_now : (s s' : ScopedState) → Moved s s' → (c d : Clock) → ClocksMove r s.unit c d → next_number s' d ≡ number r (next_number s c)
    number_now s s' l c d e = let a = l.unit in let b = l.form in let n = now (λ (x : ℕ). x) s s' l c d e in λ j. record { unit = a j; form = b j; count = n j }

    pub tick : (s s' : ScopedState) → Moved s s' → (c d : Clock) → ClocksMove r s.unit c d → (k : ℕ → ℕ) → ClocksMove r s.unit (at_form s.form k c) (at_form s'.form k d)
    tick s s' l c d e k = at_forms_step r o s.unit (λ (x : ℕ). x) c d e s.form s'.form l.form k k (λ x. refl)

    pub uses_move : (s s' : ScopedState) → Moved s s' → ClocksMove r s.unit s.uses s'.uses
    uses_move s s' l f = (let a = l.uses in λ j. a j (r.form s.unit f)) ∙ ap s.uses (w.here s.unit f)

    -- the clock that bodies keep
    pub tick_uses : (s s' : ScopedState) → Moved s s' → at_form s'.form suc s'.uses ≡ (λ g. at_form s.form suc s.uses (w.back s.unit g))
    tick_uses s s' l = λ j g. point g j
      where
        told : (g : ℕ) → (g == s'.form) ≡ (w.back s.unit g == s.form)
        told g = ap (λ x. g == x) l.form ∙ ap (λ x. x == r.form s.unit s.form) (sym (w.there s.unit g)) ∙ o.forms s.unit (w.back s.unit g) s.form

        point : (g : ℕ) → at_form s'.form suc s'.uses g ≡ at_form s.form suc s.uses (w.back s.unit g)
        point g = let a = told g in let q = l.uses in λ j. cond (a j) (suc (q j g)) (q j g)

    pub counted_now : (s s' : ScopedState) → Moved s s' → (counted known).counted s' ≡ counted_as r ((counted known).counted s)
    counted_now s s' l =
        let a = now (λ (x : ℕ). x) s s' l s.locals s'.locals l.locals in let b = now (λ (x : ℕ). x) s s' l s.uses s'.uses (uses_move s s' l) in let c = now (λ (x : ℕ). x) s s' l s.nodes s'.nodes l.nodes in
        let d = now (map (target r)) s s' l s.keywords s'.keywords l.keywords in let e = now (map (macro_use_as r)) s s' l s.met s'.met l.met in
        λ j. record { locals = a j; uses = b j; nodes = c j; keywords = d j; met = e j }

    -- ---- lists

    pub added : (ks ks' : List ScopedMacro) → ScopedMacrosMove r w ks ks' → (n n' : Meaning) → n' ≡ meaning r n → (fs fs' : Frames) → FramesMove fs fs' → (x : Option (Rules Ident)) → ScopedMacrosMove r w (macro_added n fs x ks) (macro_added n' fs' (option_map (move_rules mv) x) ks')
    added ks ks' l n n' e fs fs' k None m = l m
    added ks ks' l n n' e fs fs' k (Some x) m =
        cond_map (option_map (transformer_as r w)) (Some (record { env = fs; rules = x })) (macro_at ks m) (ap (λ y. same_meaning y (meaning r m)) e ∙ same_moved r o n m) (ap (λ gs. Some (record { env = gs; rules = move_rules mv x })) k) (l m)

    pub to_transformer : (x y : Option (Transformer Frames Ident)) → y ≡ option_map (transformer_as r w) x → Macros FramesMove mv x y
    to_transformer x y e = subst (λ z. Macros FramesMove mv x z) (sym e) (go x)
      where
        go : (z : Option (Transformer Frames Ident)) → Macros FramesMove mv z (option_map (transformer_as r w) z)
        go None = no_macro
        go (Some m) = a_macro m (frames_as r w m.env) refl

    pub placed : (ps ps' : List UsePlace) → PlacesMove r w ps ps' → (n n' : Number) → n' ≡ number r n → (fs fs' : Frames) → FramesMove fs fs' → PlacesMove r w (record { use_number = n; frames = fs } ∷ ps) (record { use_number = n'; frames = fs' } ∷ ps')
    placed ps ps' l n n' e fs fs' k m = cond_map (frames_as r w) fs (around ps m) (ap (λ y. same_number y (number r m)) e ∙ number_moved r o n m) k (l m)

    found_step : (ds ds' : BodyDefinitions) → FindsMove r w ds ds' → (d d' : BodyDefinition) → d'.body ≡ number r d.body → d'.ident ≡ ident r d.ident → d'.binder ≡ number r d.binder → FindsMove r w (d ∷ ds) (d' ∷ ds')
    found_step ds ds' l d d' eb ei ev b i =
        (let x = ap (λ y. same_number y (number r b)) eb ∙ number_moved r o d.body b in let y = ap (λ z. same_ident z (ident r i)) ei ∙ ident_moved r o d.ident i in
        λ j. found_number r w (cond (x j && y j) (Some (ev j, ds')) (find ds' (number r b) (ident r i)))) ∙ go (same_number d.body b && same_ident d.ident i)
      where
        go : (t : Bool) → found_number r w (cond t (Some (number r d.binder, ds')) (find ds' (number r b) (ident r i))) ≡ option_map (number r) (found_number r w (cond t (Some (d.binder, ds)) (find ds b i)))
        go true = refl
        go false = l b i

    -- ---- the body around

    pub body_moved : (fs fs' : Frames) → FramesMove fs fs' → body_around fs' ≡ option_map (number r) (body_around fs)
    body_moved fs fs' k = ap body_around k ∙ go fs
      where
        go : (gs : Frames) → body_around (frames_as r w gs) ≡ option_map (number r) (body_around gs)
        go [] = refl
        go (Bind x v ∷ gs) = go gs
        go (Enter b c ∷ gs) = refl

    -- ---- definitions

    module _ (n : Named Ident) (x : Option (Rules Ident)) (fs fs' : Frames) (k : FramesMove fs fs') (s s' : ScopedState) (l : Moved s s') where
      abbrev n' : Named Ident
      n' = move_named mv n

      abbrev x' : Option (Rules Ident)
      x' = option_map (move_rules mv) x

      new_same : is_some x' ≡ is_some x
      new_same = some_kept (move_rules mv) x

      abbrev d : Defined
      d = record { unit = s.unit; form = s.form; ident = n.name; keyword = is_some x; occ = n.occ }

      d_same : record { unit = s'.unit; form = s'.form; ident = n'.name; keyword = is_some x'; occ = n'.occ } ≡ defined_as r d
      d_same = let a = l.unit in let b = l.form in let e = new_same in λ j. record { unit = a j; form = b j; ident = n'.name; keyword = e j; occ = place r n.occ }

      counts_step : CountsOn r s.unit (definition_count (d ∷ s.table) s.unit) (definition_count (record { unit = s'.unit; form = s'.form; ident = n'.name; keyword = is_some x'; occ = n'.occ } ∷ s'.table) s'.unit)
      counts_step m =
          let a : (s.unit == s.unit) ≡ true = eq-eqb s.unit s.unit refl in let b : (s'.unit == s'.unit) ≡ true = eq-eqb s'.unit s'.unit refl in
          let c = definition_count s.table s.unit in let c' = definition_count s'.table s'.unit in
          let e : suc c' + m ≡ c' + suc m = omega arith in let f : c + suc m ≡ suc c + m = omega arith in
          (λ j. cond (b j) (suc c') c' + m) ∙ e ∙ l.counts (suc m) ∙ ap (r.definition s.unit) f ∙ (λ j. r.definition s.unit (cond (sym a j) (suc c) c + m))

      global_same : Global s'.unit n'.name ≡ meaning r (Global s.unit n.name)
      global_same = ap (λ v. Global v n'.name) l.unit

      local_same : next_number s' s'.locals ≡ number r (next_number s s.locals)
      local_same = number_now s s' l s.locals s'.locals l.locals

      global_step : Moved (definition_added None n x fs s) (definition_added None n' x' fs' s')
      global_step = record {
        at = l.at;
        unit = l.unit;
        program = l.program;
        form = l.form;
        locals = l.locals;
        uses = l.uses;
        nodes = l.nodes;
        bodies = l.bodies;
        keywords = l.keywords;
        met = l.met;
        table = λ v i. ap (λ y. defined_in (y ∷ s'.table) (r.unit v) (ident r i)) d_same ∙ table_step r o s.table s'.table l.table d v i;
        counts = counts_step;
        entry = l.entry;
        macros = added s.macros s'.macros l.macros (Global s.unit n.name) (Global s'.unit n'.name) global_same fs fs' k x;
        places = l.places;
        definitions = l.definitions;
      }

      local_step : (b : Number) → Moved (definition_added (Some b) n x fs s) (definition_added (Some (number r b)) n' x' fs' s')
      local_step b = record {
        at = l.at;
        unit = l.unit;
        program = l.program;
        form = l.form;
        locals = tick s s' l s.locals s'.locals l.locals suc;
        uses = l.uses;
        nodes = l.nodes;
        bodies = l.bodies;
        keywords = l.keywords;
        met = l.met;
        table = l.table;
        counts = l.counts;
        entry = l.entry;
        macros = added s.macros s'.macros l.macros (Local (next_number s s.locals)) (Local (next_number s' s'.locals)) (ap Local local_same) fs fs' k x;
        places = l.places;
        definitions = found_step s.definitions s'.definitions l.definitions (record { body = b; ident = n.name; binder = next_number s s.locals }) (record { body = number r b; ident = n'.name; binder = next_number s' s'.locals }) refl refl local_same;
      }

      added_step : (b : Option Number) → Moved (definition_added b n x fs s) (definition_added (option_map (number r) b) n' x' fs' s')
      added_step None = global_step
      added_step (Some b) = local_step b

      added_grows : (b : Option Number) → Grow s s' (definition_added b n x fs s) (definition_added (option_map (number r) b) n' x' fs' s')
      added_grows None from from' g = record { added = d ∷ g.added; here = ap (λ t. d ∷ t) g.here; there = (let a = d_same in let b = g.there in λ j. a j ∷ b j) }
      added_grows (Some b) from from' g = g

      next_same : (b : Option Number) → meaning_next s' (option_map (number r) b) n'.name ≡ meaning r (meaning_next s b n.name)
      next_same None = global_same
      next_same (Some b) = ap Local local_same

      twice_same : (b : Option Number) → is_defined s' (option_map (number r) b) n'.name ≡ is_defined s b n.name
      twice_same None = ap is_some (ap (λ v. defined_in s'.table v n'.name) l.unit ∙ l.table s.unit n.name) ∙ some_kept (defined_as r) (defined_in s.table s.unit n.name)
      twice_same (Some b) =
          sym (some_kept (λ (q : Number × BodyDefinitions). q.0) (find s'.definitions (number r b) n'.name)) ∙ ap is_some (l.definitions b n.name) ∙ some_kept (number r) (found_number r w (find s.definitions b n.name)) ∙ some_kept (λ (q : Number × BodyDefinitions). q.0) (find s.definitions b n.name)

      module _ (b : Option Number) (p : Pending Ident FramedIdent) where
        abbrev after : ScopedState
        after = definition_added b n x fs s

        abbrev after' : ScopedState
        after' = definition_added (option_map (number r) b) n' x' fs' s'

        abbrev new : Meaning
        new = meaning_next s b n.name

        abbrev new' : Meaning
        new' = meaning_next s' (option_map (number r) b) n'.name

        meant : (q : FramedIdent) → means_here after' (framed_as r w q).frames (framed_as r w q).ident ≡ meaning r (means_here after q.frames q.ident)
        meant q = means_now after after' (added_step b) q.frames (frames_as r w q.frames) refl q.ident

        refused_same : any (refused_here after' new' (is_some x')) (pending_two p).notes ≡ any (refused_here after new (is_some x)) p.notes
        refused_same =
            ap (λ t. any (refused_here after' new' t) (pending_two p).notes) new_same
            ∙ any_moved (framed_as r w) (is_some x) (λ q. same_meaning (means_here after q.frames q.ident) new) (λ q. same_meaning (means_here after' q.frames q.ident) new')
            (λ q. (let a = meant q in let c = next_same b in λ j. same_meaning (a j) (c j)) ∙ same_moved r o (means_here after q.frames q.ident) new)
            (λ q. means_here after q.frames q.ident) (λ q. means_here after' q.frames q.ident)
            (λ i j. (let a = meant i in let c = meant j in λ t. same_meaning (a t) (c t)) ∙ same_moved r o (means_here after i.frames i.ident) (means_here after j.frames j.ident)) p.notes

        case : (refused again : Bool) → Defines s s'
            (cond refused (Err (KeywordRedefined n), s) (cond again (Err (Duplicate n), s) (Ok (unchanged p), after)))
            (cond refused (Err (KeywordRedefined n'), s') (cond again (Err (Duplicate n'), s') (Ok (unchanged (pending_two p)), after')))
        case true again = (refl, l, still s s')
        case false true = (refl, l, still s s')
        case false false = (record { pending = refl; rename = λ i. refl }, added_step b, added_grows b)

        at_body : Defines s s' (define_here b n x fs p s) (define_here (option_map (number r) b) n' x' fs' (pending_two p) s')
        at_body =
            subst (λ (t : Bool × Bool). Defines s s' (define_here b n x fs p s) (cond t.0 (Err (KeywordRedefined n'), s') (cond t.1 (Err (Duplicate n'), s') (Ok (unchanged (pending_two p)), after'))))
            (sym (let a = refused_same in let c = twice_same b in λ j. (a j, c j))) (case (any (refused_here after new (is_some x)) p.notes) (is_defined s b n.name))

      pub define_goes : (p : Pending Ident FramedIdent) → Defines s s' (define_here (body_around fs) n x fs p s) (define_here (body_around fs') n' x' fs' (pending_two p) s')
      define_goes p = subst (λ b. Defines s s' (define_here (body_around fs) n x fs p s) (define_here b n' x' fs' (pending_two p) s')) (sym (body_moved fs fs' k)) (at_body (body_around fs) p)

    -- ---- the operations

    pub bound_now : (s s' : ScopedState) → Moved s s' → (b : Option Number) → bound_next s' (option_map (number r) b) ≡ bound r (bound_next s b)
    bound_now s s' l None = let a = l.unit in let b = last in λ j. Definition (a j) (b j)
      where
        last : definition_count s'.table s'.unit ≡ r.definition s.unit (definition_count s.table s.unit)
        last =
            let a = definition_count s.table s.unit in let a' = definition_count s'.table s'.unit in
            let e : a' ≡ a' + 0 = omega arith in let f : a + 0 ≡ a = omega arith in e ∙ l.counts 0 ∙ ap (r.definition s.unit) f
    bound_now s s' l (Some b) = ap LocalNumber (number_now s s' l s.locals s'.locals l.locals)

    pub assigned_now : (s s' : ScopedState) → Moved s s' → (b : Option Number) (i : Ident) → assigned s' (option_map (number r) b) (ident r i) ≡ assigned s b i
    assigned_now s s' l None i =
        let a = l.program in let d = ap is_variable (ap (λ v. defined_in s'.table v (ident r i)) l.unit ∙ l.table s.unit i) ∙ variable_moved r (defined_in s.table s.unit i) in λ j. a j && d j
    assigned_now s s' l (Some b) i = refl

    pub took : (s s' : ScopedState) → Moved s s' → Moved (record s { locals = at_form s.form suc s.locals }) (record s' { locals = at_form s'.form suc s'.locals })
    took s s' l = record { at = l.at; unit = l.unit; program = l.program; form = l.form; locals = tick s s' l s.locals s'.locals l.locals suc; uses = l.uses; nodes = l.nodes; bodies = l.bodies; keywords = l.keywords; met = l.met; table = l.table; counts = l.counts; entry = l.entry; macros = l.macros; places = l.places; definitions = l.definitions }

    abbrev pub scoped_sides : Sides
    scoped_sides = record {
      r = r;
      one_to_one = o;
      E = Frames;
      A = Ident;
      L = FramedIdent;
      S = ScopedState;
      E' = Frames;
      A' = Ident;
      L' = FramedIdent;
      S' = ScopedState;
      one = counted known;
      two = counted known;
      on = ident r;
      look = framed_as r w;
      unit = u;
      around = FramesMove;
      state = Moved;
      same = ident_moved r o;
      strip = symbol_moved r;
      plain = λ i. refl;
      insert = λ i k. refl;
      place = λ e e' a i. ap (λ fs. record { frames = fs; ident = ident r i }) a;
      means = λ e e' a s s' l i. means_now s s' l e e' a i;
      transformer = λ s s' l m. to_transformer (macro_at s.macros m) (macro_at s'.macros (meaning r m)) (l.macros m);
      known = refl;
      ask = λ qs qs' a s s' l. l;
      is_assigned = λ e e' a s s' l i. ap (λ b. assigned s' b (ident r i)) (body_moved e e' a) ∙ assigned_now s s' l (body_around e) i;
      counted = counted_now;
      turn = λ f s s' l. record { at = l.at; unit = l.unit; program = l.program; form = ap (λ v. r.form v f) (sym l.at); locals = l.locals; uses = l.uses; nodes = l.nodes; bodies = l.bodies; keywords = l.keywords; met = l.met; table = l.table; counts = l.counts; entry = l.entry; macros = l.macros; places = l.places; definitions = l.definitions };
      spend = λ n s s' l. record { at = l.at; unit = l.unit; program = l.program; form = l.form; locals = l.locals; uses = l.uses; nodes = tick s s' l s.nodes s'.nodes l.nodes (λ m. m + n); bodies = l.bodies; keywords = l.keywords; met = l.met; table = l.table; counts = l.counts; entry = l.entry; macros = l.macros; places = l.places; definitions = l.definitions };
      meet = λ t s s' l. record { at = l.at; unit = l.unit; program = l.program; form = l.form; locals = l.locals; uses = l.uses; nodes = l.nodes; bodies = l.bodies; keywords = at_forms_step r o s.unit (map (target r)) s.keywords s'.keywords l.keywords s.form s'.form l.form (λ ts. t ∷ ts) (λ ts. target r t ∷ ts) (λ ts. refl); met = l.met; table = l.table; counts = l.counts; entry = l.entry; macros = l.macros; places = l.places; definitions = l.definitions };
      meet_use = λ x s s' l. record { at = l.at; unit = l.unit; program = l.program; form = l.form; locals = l.locals; uses = l.uses; nodes = l.nodes; bodies = l.bodies; keywords = l.keywords; met = at_forms_step r o s.unit (map (macro_use_as r)) s.met s'.met l.met s.form s'.form l.form (λ us. x ∷ us) (λ us. macro_use_as r x ∷ us) (λ us. refl); table = l.table; counts = l.counts; entry = l.entry; macros = l.macros; places = l.places; definitions = l.definitions };
      next_use = λ s s' l. number_now s s' l s.uses s'.uses (uses_move s s' l);
      begin_use = λ e e' a s s' l. record { at = l.at; unit = l.unit; program = l.program; form = l.form; locals = l.locals; uses = tick_uses s s' l; nodes = l.nodes; bodies = l.bodies; keywords = l.keywords; met = l.met; table = l.table; counts = l.counts; entry = l.entry; macros = l.macros; places = placed s.places s'.places l.places (next_number s s.uses) (next_number s' s'.uses) (number_now s s' l s.uses s'.uses (uses_move s s' l)) e e' a; definitions = l.definitions };
      next_local = λ s s' l. number_now s s' l s.locals s'.locals l.locals;
      take_local = took;
      next_bound = λ e e' a s s' l. ap (bound_next s') (body_moved e e' a) ∙ bound_now s s' l (body_around e);
      bind = λ i e e' a ts s s' l. regions (let b = number_now s s' l s.locals s'.locals l.locals in λ j. Bind (ident r i) (b j) ∷ a j) refl (took s s' l);
      keep = λ v x e e' a s s' l. record { at = l.at; unit = l.unit; program = l.program; form = l.form; locals = l.locals; uses = l.uses; nodes = l.nodes; bodies = l.bodies; keywords = l.keywords; met = l.met; table = l.table; counts = l.counts; entry = l.entry; macros = added s.macros s'.macros l.macros (Local v) (Local (number r v)) refl e e' a (Some x); places = l.places; definitions = l.definitions };
      enter = λ e e' a ts s s' l. regions (let b = number_now s s' l s.bodies s'.bodies l.bodies in let c = l.uses in λ j. Enter (b j) (c j) ∷ a j) refl
          (record { at = l.at; unit = l.unit; program = l.program; form = l.form; locals = l.locals; uses = l.uses; nodes = l.nodes; bodies = tick s s' l s.bodies s'.bodies l.bodies suc; keywords = l.keywords; met = l.met; table = l.table; counts = l.counts; entry = l.entry; macros = l.macros; places = l.places; definitions = l.definitions });
      define = λ n x e e' a p s s' l. (let d = define_goes n x e e' a s s' l p in (d.0, d.1));
    }

    -- ---- and what is defined since these tables

    module _ (from from' : Table) where
      abbrev Since : ScopedState → ScopedState → Type 0
      Since s s' = Moved s s' × DefinedAlike r from from' s.table s'.table

      pub with_since : (x y : Region Frames Ident ScopedState) → Regions FramesMove mv Moved x y → DefinedAlike r from from' x.state.table y.state.table → Regions FramesMove mv Since x y
      with_since x y (regions k d m) g = regions k d (m, g)

      abbrev pub scoped_sides_since : Sides
      scoped_sides_since = record {
        r = r;
        one_to_one = o;
        E = Frames;
        A = Ident;
        L = FramedIdent;
        S = ScopedState;
        E' = Frames;
        A' = Ident;
        L' = FramedIdent;
        S' = ScopedState;
        one = counted known;
        two = counted known;
        on = ident r;
        look = framed_as r w;
        unit = u;
        around = FramesMove;
        state = Since;
        same = ident_moved r o;
        strip = symbol_moved r;
        plain = λ i. refl;
        insert = λ i k. refl;
        place = λ e e' a i. scoped_sides.place e e' a i;
        means = λ e e' a s s' l i. scoped_sides.means e e' a s s' l.0 i;
        transformer = λ s s' l m. scoped_sides.transformer s s' l.0 m;
        known = refl;
        ask = λ qs qs' a s s' l. l;
        is_assigned = λ e e' a s s' l i. scoped_sides.is_assigned e e' a s s' l.0 i;
        counted = λ s s' l. scoped_sides.counted s s' l.0;
        turn = λ f s s' l. (scoped_sides.turn f s s' l.0, l.1);
        spend = λ n s s' l. (scoped_sides.spend n s s' l.0, l.1);
        meet = λ t s s' l. (scoped_sides.meet t s s' l.0, l.1);
        meet_use = λ x s s' l. (scoped_sides.meet_use x s s' l.0, l.1);
        next_use = λ s s' l. scoped_sides.next_use s s' l.0;
        begin_use = λ e e' a s s' l. (scoped_sides.begin_use e e' a s s' l.0, l.1);
        next_local = λ s s' l. scoped_sides.next_local s s' l.0;
        take_local = λ s s' l. (scoped_sides.take_local s s' l.0, l.1);
        next_bound = λ e e' a s s' l. scoped_sides.next_bound e e' a s s' l.0;
        bind = λ i e e' a ts s s' l. with_since _ _ (scoped_sides.bind i e e' a ts s s' l.0) l.1;
        keep = λ v x e e' a s s' l. (scoped_sides.keep v x e e' a s s' l.0, l.1);
        enter = λ e e' a ts s s' l. with_since _ _ (scoped_sides.enter e e' a ts s s' l.0) l.1;
        define = λ n x e e' a p s s' l. (let d = define_goes n x e e' a s s' l.0 p in (d.0, (d.1, d.2 from from' l.1)));
      }
