-- What the code tells of forms that were misread, and of rules that are none, is the fault of the definition.
use Rattle.std.proofs.Common.{Option, Result, refl}
use Rattle.scheme_model.specs.declared.Occ.{Occ}
use Rattle.scheme_model.specs.ExpansionFaults.{Fault, BadRules, TwoEllipses, DuplicateVariable, EllipsisDepth, IdleEllipsis, BadForm, DuplicateBinder, BadPlace, BadRecord, BadQuasi}
use Rattle.scheme_model.specs.Ident.{Ident as Identifier}
use Rattle.syntax_tree.specs.declared.trees.Work.{Work}
use Rattle.core_forms.specs.declared.fault.CoreFault.{CoreFault}
use Rattle.core_forms.specs.declared.fault.CoreFault.TheVariants as core
use Rattle.core_forms.specs.Ends.{Refuses}
use Rattle.rules_check.specs.declared.fault.RulesFault.{RulesFault}
use Rattle.rules_check.specs.declared.fault.RulesFault.TheVariants as rules
use Rattle.rules_check.specs.Checked.{Refuses as RulesRefuse}
use Rattle.unit_scopes.specs.Told.{core_fault, rules_fault, told, Tells}

module _ {Y : Type 0} (work : Work) (here : Option Occ) where
  -- a core form that was misread
  pub misread_is : (e : CoreFault) (s : Result Y (Fault Identifier)) → Refuses work e s → Tells work.symbols here (told here (core_fault e)) s
  misread_is core.BadForm s h = (BadForm, h, record { code = refl; name = tt; place = refl; here = refl; text = refl })
  misread_is (core.DuplicateBinder n) s h = (DuplicateBinder h.0, h.1, record { code = refl; name = h.2.0; place = h.2.1; here = refl; text = refl })
  misread_is core.BadPlace s h = (BadPlace, h, record { code = refl; name = tt; place = refl; here = refl; text = refl })
  misread_is core.BadRecord s h = (BadRecord, h, record { code = refl; name = tt; place = refl; here = refl; text = refl })
  misread_is core.BadQuasi s h = (BadQuasi, h, record { code = refl; name = tt; place = refl; here = refl; text = refl })
  misread_is core.Memory s h = tt

  -- rules that are none
  pub bad_rules_are : (e : RulesFault) (s : Result Y (Fault Identifier)) → RulesRefuse work e s → Tells work.symbols here (told here (rules_fault e)) s
  bad_rules_are rules.BadShape s h = (BadRules, h, record { code = refl; name = tt; place = refl; here = refl; text = refl })
  bad_rules_are rules.TwoEllipses s h = (TwoEllipses, h, record { code = refl; name = tt; place = refl; here = refl; text = refl })
  bad_rules_are (rules.DuplicateVariable n) s h = (DuplicateVariable h.0, h.1, record { code = refl; name = h.2.0; place = h.2.1; here = refl; text = refl })
  bad_rules_are (rules.Depth n) s h = (EllipsisDepth h.0, h.1, record { code = refl; name = h.2.0; place = h.2.1; here = refl; text = refl })
  bad_rules_are rules.IdleEllipsis s h = (IdleEllipsis, h, record { code = refl; name = tt; place = refl; here = refl; text = refl })
  bad_rules_are rules.Memory s h = tt
