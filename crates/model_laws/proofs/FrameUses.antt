-- The laws of what a macro use compares, and of what it is met with.
use Rattle.std.proofs.Common.{◌≡◌, ℕ, List, [], ◌∷◌, map, Bool, true, false, cond, refl, ap, ◌∙◌}
use Rattle.std.specs.Prelude.{nat_lt}
use Rattle.scheme_model.specs.Identifiers.{Number, Name, same_name, strip}
use Rattle.scheme_model.specs.Ident.{Ident, same_ident, symbol_of}
use Rattle.scheme_model.specs.Trees.{Trees, Tail, map_trees, map_tail}
use Rattle.scheme_model.specs.ExpansionFaults.{Named, named_map}
use Rattle.scheme_model.specs.Meaning.{same_meaning}
use Rattle.scheme_model.specs.Requirements.{Known}
use Rattle.scheme_model.specs.RulesShape.{rules_map, role_of, dots_of}
use Rattle.scheme_model.specs.Matching.{compared}
use Rattle.scheme_model.specs.Cores.{Target, MacroUse}
use Rattle.scheme_model.specs.Order.{Transformer, WaitingUse, Compared, max_uses, target_of, comparisons, meet_waiting, meet_all}
use Rattle.scheme_model.specs.Substitution.{at_form, meaning, use_map, note_map, model}
use Rattle.scheme_model.specs.ScopedExpansion.{Frames, FramedIdent, ScopedState, means_at, scoped}
use Rattle.scheme_model.specs.Renaming.{Renames, pair_map}
use Rattle.model_laws.proofs.FrameEras.{Era}
use Rattle.scheme_model.proofs.RenamingLaws.{map_after, map_turned}
use Rattle.scheme_model.proofs.RulesLaws.{role_of-map, dots_of-map}
use Rattle.scheme_model.proofs.CompareLaws.{compared-map}
use Rattle.model_laws.proofs.FrameNames.{same_frame_image, strip_frame_image}
use Rattle.model_laws.proofs.FrameStates.{names, view, FineState, names_mean}
use Rattle.model_laws.proofs.FrameHeads.{seen_transformer, target_seen}

-- how names of a state tell its identifiers
abbrev pub named_in : (s : ScopedState) (fs : Frames) → Renames (names s fs) (record { same = same_ident; strip = symbol_of }) (record { same = same_name; strip = strip })
named_in s fs = record { same = same_frame_image s.places s.definitions fs; strip = strip_frame_image s.places s.definitions fs }

-- ---- comparisons

-- a note's identifier on the definition's side
abbrev pub placed : ScopedState → FramedIdent → Name
placed s p = names s p.frames p.ident

module _ (w : Era) (known : Known) (s : ScopedState) (f : FineState w s) (in_body : Bool) (mine : List Number) where
  abbrev pairs_of : Transformer Frames Ident → Trees Ident → Tail Ident → List (Ident × Ident)
  pairs_of m ts tail = compared (role_of (record { same = same_ident; strip = symbol_of }) m.rules) (dots_of (record { same = same_ident; strip = symbol_of }) m.rules) m.rules.rules ts tail

  abbrev pairs_seen : Frames → Transformer Frames Ident → Trees Ident → Tail Ident → List (Name × Name)
  pairs_seen fs m ts tail =
      compared (role_of (record { same = same_name; strip = strip }) (rules_map (names s m.env) m.rules)) (dots_of (record { same = same_name; strip = strip }) (rules_map (names s m.env) m.rules)) (rules_map (names s m.env) m.rules).rules (map_trees (names s fs) ts) (map_tail (names s fs) tail)

  pairs_same : (fs : Frames) (m : Transformer Frames Ident) (ts : Trees Ident) (tail : Tail Ident)
      → map (λ (q : Name × Name). Compared q.0 q.1 (same_meaning (meaning s.table s.entry q.0) (meaning s.table s.entry q.1))) (pairs_seen fs m ts tail)
      ≡ map (note_map (placed s)) (map (λ (q : Ident × Ident). Compared (record { frames = m.env; ident = q.0 }) (record { frames = fs; ident = q.1 }) (same_meaning (means_at s m.env q.0) (means_at s fs q.1))) (pairs_of m ts tail))
  pairs_same fs m ts tail =
      ap (map (λ (q : Name × Name). Compared q.0 q.1 (same_meaning (meaning s.table s.entry q.0) (meaning s.table s.entry q.1)))) (compared-map Ident Ident Name Name (names s m.env) (names s fs)
      (role_of (record { same = same_ident; strip = symbol_of }) m.rules) (role_of (record { same = same_name; strip = strip }) (rules_map (names s m.env) m.rules)) (role_of-map Ident Name (names s m.env) (record { same = same_ident; strip = symbol_of }) (record { same = same_name; strip = strip }) (named_in s m.env) m.rules)
      (dots_of (record { same = same_ident; strip = symbol_of }) m.rules) (dots_of (record { same = same_name; strip = strip }) (rules_map (names s m.env) m.rules)) (dots_of-map Ident Name (names s m.env) (record { same = same_ident; strip = symbol_of }) (record { same = same_name; strip = strip }) (named_in s m.env) m.rules)
      m.rules.rules ts tail)
      ∙ map_turned (λ (q : Name × Name). Compared q.0 q.1 (same_meaning (meaning s.table s.entry q.0) (meaning s.table s.entry q.1))) (pair_map (names s m.env) (names s fs))
      (note_map (placed s)) (λ (q : Ident × Ident). Compared (record { frames = m.env; ident = q.0 }) (record { frames = fs; ident = q.1 }) (same_meaning (means_at s m.env q.0) (means_at s fs q.1)))
      (λ q. let a = names_mean w s f m.env q.0 in let b = names_mean w s f fs q.1 in λ j. Compared (names s m.env q.0) (names s fs q.1) (same_meaning (a j) (b j)))
      (compared (role_of (record { same = same_ident; strip = symbol_of }) m.rules) (dots_of (record { same = same_ident; strip = symbol_of }) m.rules) m.rules.rules ts tail)

  pub comparisons_seen : (fs : Frames) (m : Transformer Frames Ident) (ts : Trees Ident) (tail : Tail Ident)
      → comparisons (model known) tt (seen_transformer s.places s.definitions m) (map_trees (names s fs) ts) (map_tail (names s fs) tail) (view in_body mine s) ≡ map (note_map (placed s)) (comparisons (scoped known) fs m ts tail s)
  comparisons_seen fs m ts tail = go (nat_lt (s.uses s.form) max_uses)
    where
      go : (t : Bool) → cond t (map (λ (q : Name × Name). Compared q.0 q.1 (same_meaning (meaning s.table s.entry q.0) (meaning s.table s.entry q.1))) (pairs_seen fs m ts tail)) []
          ≡ map (note_map (placed s)) (cond t (map (λ (q : Ident × Ident). Compared (record { frames = m.env; ident = q.0 }) (record { frames = fs; ident = q.1 }) (same_meaning (means_at s m.env q.0) (means_at s fs q.1))) (pairs_of m ts tail)) [])
      go true = pairs_same fs m ts tail
      go false = refl

  -- a use is met with the same
  pub meet_seen : (fs : Frames) (u : WaitingUse Ident) → meet_waiting (model known) tt (use_map (names s fs) u) (view in_body mine s) ≡ view in_body mine (meet_waiting (scoped known) fs u s)
  meet_seen fs u =
      ap (λ (ls : List Target). view in_body mine (record s { met = at_form s.form (λ us. record { keyword = u.keyword; literals = ls } ∷ us) s.met }))
      (map_after (λ (n : Named Name). target_of (model known) tt (view in_body mine s) n.name n.occ) (named_map (names s fs)) (λ (n : Named Ident). target_of (scoped known) fs s n.name n.occ)
      (λ n. target_seen w known s f in_body mine fs n.name n.occ) u.literals)

-- uses that waited are met, one after another
module _ (w : Era) (known : Known) (in_body : Bool) (mine : List Number) (fs : Frames) where
  pub meet_all_seen : (us : List (WaitingUse Ident)) (s : ScopedState) → FineState w s → meet_all (model known) tt (map (use_map (names s fs)) us) (view in_body mine s) ≡ view in_body mine (meet_all (scoped known) fs us s)
  meet_all_seen [] s f = refl
  meet_all_seen (u ∷ us) s f = ap (meet_all (model known) tt (map (use_map (names s fs)) us)) (meet_seen w known s f in_body mine fs u) ∙ meet_all_seen us (meet_waiting (scoped known) fs u s) f

-- what holds whatever was met
pub met_later : (known : Known) (fs : Frames) (P : ScopedState → Type 0) (us : List (WaitingUse Ident)) (s : ScopedState) → ((z : ℕ → List MacroUse) → P (record s { met = z })) → P (meet_all (scoped known) fs us s)
met_later known fs P [] s h = h s.met
met_later known fs P (u ∷ us) s h = met_later known fs P us (meet_waiting (scoped known) fs u s) h
