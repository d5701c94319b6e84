-- While a form is expanded, the counts of the others stay, and what is defined is of this form.
use Rattle.std.proofs.Common.{◌≡◌, ℕ, suc, ◌+◌, List, [], ◌∷◌, ◌++◌, Bool, true, false, cond, Option, Some, None, Result, Ok, Err, refl, sym, ap, ◌∙◌, subst}
use Rattle.std.specs.Prelude.{◌&&◌}
use Rattle.std.proofs.lemmas.Bool.{ne_eqb}
use Rattle.std.proofs.lemmas.List.{append_assoc}
use Rattle.scheme_model.specs.Identifiers.{Number}
use Rattle.scheme_model.specs.Ident.{Ident}
use Rattle.scheme_model.specs.Trees.{Tree}
use Rattle.scheme_model.specs.ExpansionFaults.{Named, Fault, KeywordRedefined, Duplicate}
use Rattle.scheme_model.specs.Meaning.{Meaning, Local, Global}
use Rattle.scheme_model.specs.Requirements.{Known}
use Rattle.scheme_model.specs.Cores.{Target, MacroUse}
use Rattle.scheme_model.specs.RulesShape.{Rules}
use Rattle.scheme_model.specs.Order.{Item, WaitingUse, Note, LookedUp, Compared, Pending, Renamed, Transformer, is_some}
use Rattle.scheme_model.specs.UnitExpansion.{max_depth, one_form}
use Rattle.scheme_model.specs.Program.{enough_turns}
use Rattle.scheme_model.specs.Substitution.{at_form, any, unchanged}
use Rattle.scheme_model.specs.ScopedExpansion.{Frames, FramedIdent, ScopedState, next_number, macro_added, body_around, definition_added, meaning_next, is_defined}
use Rattle.scheme_model.specs.CountedExpansion.{refused_here}
use Rattle.model_laws.proofs.FrameAsks.{AllOf}
use Rattle.model_laws.proofs.FrameHeads.{IfMacro}
use Rattle.model_laws.proofs.FrameHeld.{NoteAll}
use Rattle.model_laws.proofs.CountedForms.{OkAll}
use Rattle.unit_scopes.specs.Others.{Each, InFront, CountsStay, IsOf, IsOwn, IsOwnMacro, OthersStay}
use Rattle.unit_scopes.specs.Searched.{speaks_of, define_searched, searched}
use Rattle.unit_scopes.specs.Stepped.{turned}
use Rattle.unit_scopes.specs.Units.{declared, uses_met, expanded}
use Rattle.expansion_laws.proofs.AlikeSteps.{Likeness, all_met_after}
use Rattle.expansion_laws.proofs.AlikeSides.{run_alike, item_alike}

-- ---- what is put in front

pub none_in_front : {X : Type 0} (P : X → Type 0) (xs : List X) → InFront P xs xs
none_in_front P xs = record { front = []; each = tt; whole = refl }

pub one_in_front : {X : Type 0} (P : X → Type 0) (x : X) (xs : List X) → P x → InFront P xs (x ∷ xs)
one_in_front P x xs h = record { front = x ∷ []; each = (h, tt); whole = refl }

each_append : {X : Type 0} (P : X → Type 0) (xs ys : List X) → Each P xs → Each P ys → Each P (xs ++ ys)
each_append P [] ys h k = k
each_append P (x ∷ xs) ys h k = (h.0, each_append P xs ys h.1 k)

pub more_in_front : {X : Type 0} (P : X → Type 0) (xs ys zs : List X) → InFront P xs ys → InFront P ys zs → InFront P xs zs
more_in_front P xs ys zs a b = record {
  front = b.front ++ a.front;
  each = each_append P b.front a.front b.each a.each;
  whole = b.whole ∙ (ap (λ us. b.front ++ us) a.whole ∙ sym (append_assoc b.front a.front xs));
}

-- ---- notes and macros of whatever kind

pub any_notes : (ns : List (Note FramedIdent)) → AllOf (NoteAll (λ (l : FramedIdent). Unit {0})) ns
any_notes [] = tt
any_notes (LookedUp p head keyword ∷ ns) = (tt, any_notes ns)
any_notes (Compared p q held ∷ ns) = ((tt, tt), any_notes ns)

pub any_macro : (o : Option (Transformer Frames Ident)) → IfMacro (λ (t : Transformer Frames Ident). Unit {0}) o
any_macro None = tt
any_macro (Some t) = tt

pub notes_left : (s t : ScopedState) (n : Named Ident) (p : Pending Ident FramedIdent) (refused twice : Bool) → OkAll (λ (d : Renamed Ident FramedIdent). d.pending.notes ≡ p.notes) (cond {A = Result (Renamed Ident FramedIdent) (Fault Ident) × ScopedState} refused (Err (KeywordRedefined n), s) (cond twice (Err (Duplicate n), s) (Ok (unchanged p), t))).0
notes_left s t n p true twice = tt
notes_left s t n p false true = tt
notes_left s t n p false false = refl

-- a definition is refused by what was asked
abbrev pub is_refused_here : Named Ident → Option (Rules Ident) → Frames → Pending Ident FramedIdent → ScopedState → Bool
is_refused_here n r fs p s = any (λ note. speaks_of n.name note && refused_here (definition_added (body_around fs) n r fs s) (meaning_next s (body_around fs) n.name) (is_some r) note) p.notes

module _ (form : ℕ) where
  -- ---- steps

  pub others_itself : (s : ScopedState) → OthersStay form s s
  others_itself s = record {
    unit = refl;
    program = refl;
    entry = refl;
    counts = λ m apart. record { locals = refl; uses = refl; nodes = refl; bodies = refl; keywords = refl; met = refl };
    table = none_in_front (IsOf s.unit form) s.table;
    macros = none_in_front (IsOwnMacro s.unit) s.macros;
  }

  pub others_then : (s t u : ScopedState) → OthersStay form s t → OthersStay form t u → OthersStay form s u
  others_then s t u a b = record {
    unit = b.unit ∙ a.unit;
    program = b.program ∙ a.program;
    entry = b.entry ∙ a.entry;
    counts = λ m apart.
        let c = a.counts m apart in
        let d = b.counts m apart in
        record { locals = d.locals ∙ c.locals; uses = d.uses ∙ c.uses; nodes = d.nodes ∙ c.nodes; bodies = d.bodies ∙ c.bodies; keywords = d.keywords ∙ c.keywords; met = d.met ∙ c.met };
    table = more_in_front (IsOf s.unit form) s.table t.table u.table a.table (subst (λ (n : ℕ). InFront (IsOf n form) t.table u.table) a.unit b.table);
    macros = more_in_front (IsOwnMacro s.unit) s.macros t.macros u.macros a.macros (subst (λ (n : ℕ). InFront (IsOwnMacro n) t.macros u.macros) a.unit b.macros);
  }

  -- what is counted for the form at work is as it was for another
  else_at : {X : Type 0} (at m : ℕ) (f : X → X) (g : ℕ → X) → at ≡ form → (m ≡ form → ⊥) → at_form at f g m ≡ g m
  else_at at m f g work apart = ap (λ b. cond b (f (g m)) (g m)) (ne_eqb m at (λ same. apart (same ∙ work)))

  counted_on : (s t : ScopedState) → t.unit ≡ s.unit → t.program ≡ s.program → t.entry ≡ s.entry → t.table ≡ s.table → t.macros ≡ s.macros → ((m : ℕ) → (m ≡ form → ⊥) → CountsStay m s t) → OthersStay form s t
  counted_on s t unit program entry table macros counts = record {
    unit = unit;
    program = program;
    entry = entry;
    counts = counts;
    table = subst (λ ds. InFront (IsOf s.unit form) s.table ds) (sym table) (none_in_front (IsOf s.unit form) s.table);
    macros = subst (λ ks. InFront (IsOwnMacro s.unit) s.macros ks) (sym macros) (none_in_front (IsOwnMacro s.unit) s.macros);
  }

  module _ (s : ScopedState) (work : s.form ≡ form) where
    spent_on : (n : ℕ) → OthersStay form s (record s { nodes = at_form s.form (λ m. m + n) s.nodes })
    spent_on n = counted_on s _ refl refl refl refl refl (λ m apart. record { locals = refl; uses = refl; nodes = else_at s.form m (λ m. m + n) s.nodes work apart; bodies = refl; keywords = refl; met = refl })

    met_on : (t : Target) → OthersStay form s (record s { keywords = at_form s.form (λ ts. t ∷ ts) s.keywords })
    met_on t = counted_on s _ refl refl refl refl refl (λ m apart. record { locals = refl; uses = refl; nodes = refl; bodies = refl; keywords = else_at s.form m (λ ts. t ∷ ts) s.keywords work apart; met = refl })

    use_met_on : (u : MacroUse) → OthersStay form s (record s { met = at_form s.form (λ us. u ∷ us) s.met })
    use_met_on u = counted_on s _ refl refl refl refl refl (λ m apart. record { locals = refl; uses = refl; nodes = refl; bodies = refl; keywords = refl; met = else_at s.form m (λ us. u ∷ us) s.met work apart })

    begun_on : (fs : Frames) → OthersStay form s (record s { uses = at_form s.form suc s.uses; places = record { use_number = next_number s s.uses; frames = fs } ∷ s.places })
    begun_on fs = counted_on s _ refl refl refl refl refl (λ m apart. record { locals = refl; uses = else_at s.form m suc s.uses work apart; nodes = refl; bodies = refl; keywords = refl; met = refl })

    taken_on : OthersStay form s (record s { locals = at_form s.form suc s.locals })
    taken_on = counted_on s _ refl refl refl refl refl (λ m apart. record { locals = else_at s.form m suc s.locals work apart; uses = refl; nodes = refl; bodies = refl; keywords = refl; met = refl })

    entered_on : OthersStay form s (record s { bodies = at_form s.form suc s.bodies })
    entered_on = counted_on s _ refl refl refl refl refl (λ m apart. record { locals = refl; uses = refl; nodes = refl; bodies = else_at s.form m suc s.bodies work apart; keywords = refl; met = refl })

    kept_on : (v : Number) (r : Rules Ident) (fs : Frames) → OthersStay form s (record s { macros = record { meaning = Local v; frames = fs; rules = r } ∷ s.macros })
    kept_on v r fs = record {
      unit = refl;
      program = refl;
      entry = refl;
      counts = λ m apart. record { locals = refl; uses = refl; nodes = refl; bodies = refl; keywords = refl; met = refl };
      table = none_in_front (IsOf s.unit form) s.table;
      macros = one_in_front (IsOwnMacro s.unit) (record { meaning = Local v; frames = fs; rules = r }) s.macros tt;
    }

    -- ---- definitions

    macro_on : (m : Meaning) (fs : Frames) (r : Option (Rules Ident)) → IsOwn s.unit m → InFront (IsOwnMacro s.unit) s.macros (macro_added m fs r s.macros)
    macro_on m fs None own = none_in_front (IsOwnMacro s.unit) s.macros
    macro_on m fs (Some r) own = one_in_front (IsOwnMacro s.unit) (record { meaning = m; frames = fs; rules = r }) s.macros own

    added_on : (b : Option Number) (n : Named Ident) (r : Option (Rules Ident)) (fs : Frames) → OthersStay form s (definition_added b n r fs s)
    added_on None n r fs = record {
      unit = refl;
      program = refl;
      entry = refl;
      counts = λ m apart. record { locals = refl; uses = refl; nodes = refl; bodies = refl; keywords = refl; met = refl };
      table = one_in_front (IsOf s.unit form) (record { unit = s.unit; form = s.form; ident = n.name; keyword = is_some r; occ = n.occ }) s.table (refl, work);
      macros = macro_on (Global s.unit n.name) fs r refl;
    }
    added_on (Some b) n r fs = record {
      unit = refl;
      program = refl;
      entry = refl;
      counts = λ m apart. record { locals = else_at s.form m suc s.locals work apart; uses = refl; nodes = refl; bodies = refl; keywords = refl; met = refl };
      table = none_in_front (IsOf s.unit form) s.table;
      macros = macro_on (Local (next_number s s.locals)) fs r tt;
    }

    form_added : (b : Option Number) (n : Named Ident) (r : Option (Rules Ident)) (fs : Frames) → (definition_added b n r fs s).form ≡ form
    form_added None n r fs = work
    form_added (Some b) n r fs = work

    defined_on : (b : Option Number) (n : Named Ident) (r : Option (Rules Ident)) (fs : Frames) (p : Pending Ident FramedIdent) (refused twice : Bool)
        → let q = cond {A = Result (Renamed Ident FramedIdent) (Fault Ident) × ScopedState} refused (Err (KeywordRedefined n), s) (cond twice (Err (Duplicate n), s) (Ok (unchanged p), definition_added b n r fs s)) in (q.1.form ≡ form) × OthersStay form s q.1
    defined_on b n r fs p true twice = (work, others_itself s)
    defined_on b n r fs p false true = (work, others_itself s)
    defined_on b n r fs p false false = (form_added b n r fs, added_on b n r fs)

  -- ---- the whole of a form

  abbrev staying : (known : Known) → Likeness (searched known)
  staying known = record {
    define = λ n r fs p s. define_searched (body_around fs) n r fs p s;
    good = λ s. s.form ≡ form;
    fits = λ s fs. Unit {0};
    noted = λ s l. Unit {0};
    defines = λ fs. Unit {0};
    inside = λ s fs ts. tt;
    later = OthersStay form;
    itself = others_itself;
    then_ = others_then;
    fits_later = λ s t le fs h. tt;
    noted_later = λ s t le l h. tt;
    placed = λ s fs h i. tt;
    spend = λ s g n. (g, spent_on s g n);
    spend_means = λ s n fs i. refl;
    meet = λ s g t. (g, met_on s g t);
    meet_use = λ s g u. (g, use_met_on s g u);
    begin_use = λ s g fs h. (g, begun_on s g fs);
    take_local = λ s g. (g, taken_on s g);
    bind = λ s g fs h x ts. ((g, taken_on s g), tt);
    keep = λ s g fs h v r. (g, kept_on s g v r fs);
    enter = λ s g fs h ts. ((g, entered_on s g), tt);
    transformer = λ s g m. any_macro _;
    same = λ s g fs defines h n r p ns. refl;
    defined = λ s g fs defines h n r p. defined_on s g (body_around fs) n r fs p (is_refused_here n r fs p s) (is_defined s (body_around fs) n.name);
    left = λ s fs n r p. notes_left s (definition_added (body_around fs) n r fs s) n p (is_refused_here n r fs p s) (is_defined s (body_around fs) n.name);
  }

  -- the form that is at work doesn't matter to what stays
  of_turned : (s t : ScopedState) → OthersStay form (turned form s) t → OthersStay form s t
  of_turned s t h = record {
    unit = h.unit;
    program = h.program;
    entry = h.entry;
    counts = λ m apart. let c = h.counts m apart in record { locals = c.locals; uses = c.uses; nodes = c.nodes; bodies = c.bodies; keywords = c.keywords; met = c.met };
    table = h.table;
    macros = h.macros;
  }

  pub declared_stays : (known : Known) (t : Tree Ident) (notes : List (Note FramedIdent)) (s : ScopedState) → OthersStay form s (declared known form t notes s).1
  declared_stays known t notes s =
      of_turned s (declared known form t notes s).1
      (run_alike (searched known) (staying known) [] tt enough_turns (one_form t notes) (turned form s) (refl, tt) (any_notes notes)).after.1

  pub expanded_stays : (known : Known) (i : Item Ident) (s : ScopedState) → OthersStay form s (expanded known form i s).1
  expanded_stays known i s =
      of_turned s (expanded known form i s).1
      (item_alike (searched known) (staying known) enough_turns max_depth [] i (turned form s) (refl, tt)).after.1

  pub met_stays : (known : Known) (us : List (WaitingUse Ident)) (s : ScopedState) → OthersStay form s (uses_met known form us s)
  met_stays known us s = of_turned s (uses_met known form us s) (all_met_after (searched known) (staying known) [] us (turned form s) refl).1
