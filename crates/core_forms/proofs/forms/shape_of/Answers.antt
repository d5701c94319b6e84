use Rattle.std.proofs.Common.{Bool, refl, ap, ◌∙◌, Ok}
use Rattle.scheme_model.specs.ExpansionFaults.{◌>>◌}
use Rattle.scheme_model.specs.Keywords.{CoreKeyword, IsQuote, IsQuasiquote, IsLambda, IsCaseLambda, IsIf, IsSet, IsBegin, IsDefine, IsDefineValues, IsDefineRecordType, IsDefineSyntax, IsLetSyntax, IsLetrecSyntax, IsCondExpand, IsSyntaxError, IsInclude}
use Rattle.scheme_model.specs.Shapes.{one_of, lambda_of, case_lambda_of, if_of, definition_of, values_of, record_of, syntax_of, local_macros_of, error_text_of}
use Rattle.scheme_model.specs.Ident.{same_ident}
use Rattle.core_forms.specs.declared.shape.CoreKeyword.TheVariants as word
use Rattle.core_forms.specs.Forms.{Quoted, Procedure, Procedures, Conditional, Definition, Several, RecordType, Syntax, Local, Choices, ErrorText, Inclusion, shape_of, unless_expression, record_shape_of}
use Rattle.core_forms.specs.Steps.{cond_expand_of}
use Rattle.core_forms.specs.Ends.{ShapeFor}
use Rattle.core_forms.proofs.Reading.{ends_same, then_ok, is_word, unless_ends, kind_ends}
use Rattle.core_forms.proofs.Naming.{unless_named}
use Rattle.core_forms.proofs.forms.shape_of.Goals as goal

pub returns-in_ok-one_of-in-Quote-clause-read : goal.returns-in_ok-one_of-in-Quote-clause-read
returns-in_ok-one_of-in-Quote-clause-read c = λ k mark ts tail h marks stands ends.
    let w = c.args.work.now in
    let at = ap (λ (m : CoreKeyword). shape_of m c.args.expression mark ts tail) (is_word c.args.keyword word.Quote k IsQuote c.in-Quote.is refl h) in
    let x = c.in_ok-one_of-in-Quote.ensures.read ts tail stands ends in
    (Quoted x.0, at ∙ then_ok (one_of ts tail) (λ x. Ok (Quoted x)) x.0 x.1, (_, refl, x.2))

pub returns-in-Quasiquote-clause-read : goal.returns-in-Quasiquote-clause-read
returns-in-Quasiquote-clause-read c = λ k mark ts tail h marks stands ends.
    let w = c.args.work.now in
    let at = ap (λ (m : CoreKeyword). shape_of m c.args.expression mark ts tail) (is_word c.args.keyword word.Quasiquote k IsQuasiquote c.in-Quasiquote.is refl h) in
    ends_same w (ShapeFor w) (shape_of k c.args.expression mark ts tail) (shape_of IsQuasiquote c.args.expression mark ts tail) c.quasiquotation.result at (c.quasiquotation.ensures.read mark ts tail marks stands ends)

pub returns-in_ok-lambda_of-in-Lambda-clause-read : goal.returns-in_ok-lambda_of-in-Lambda-clause-read
returns-in_ok-lambda_of-in-Lambda-clause-read c = λ k mark ts tail h marks stands ends.
    let w = c.args.work.now in
    let at = ap (λ (m : CoreKeyword). shape_of m c.args.expression mark ts tail) (is_word c.args.keyword word.Lambda k IsLambda c.in-Lambda.is refl h) in
    let x = c.in_ok-lambda_of-in-Lambda.ensures.read ts tail stands ends in
    (Procedure x.0, at ∙ then_ok (lambda_of same_ident ts tail) (λ x. Ok (Procedure x)) x.0 x.1, (_, refl, x.2))

pub returns-in_ok-case_lambda_of-in-CaseLambda-clause-read : goal.returns-in_ok-case_lambda_of-in-CaseLambda-clause-read
returns-in_ok-case_lambda_of-in-CaseLambda-clause-read c = λ k mark ts tail h marks stands ends.
    let w = c.args.work.now in
    let at = ap (λ (m : CoreKeyword). shape_of m c.args.expression mark ts tail) (is_word c.args.keyword word.CaseLambda k IsCaseLambda c.in-CaseLambda.is refl h) in
    let x = c.in_ok-case_lambda_of-in-CaseLambda.ensures.read ts tail stands ends in
    (Procedures x.0, at ∙ then_ok (case_lambda_of same_ident ts tail) (λ x. Ok (Procedures x)) x.0 x.1, (_, refl, x.2))

pub returns-in_ok-if_of-in-If-clause-read : goal.returns-in_ok-if_of-in-If-clause-read
returns-in_ok-if_of-in-If-clause-read c = λ k mark ts tail h marks stands ends.
    let w = c.args.work.now in
    let at = ap (λ (m : CoreKeyword). shape_of m c.args.expression mark ts tail) (is_word c.args.keyword word.If k IsIf c.in-If.is refl h) in
    let x = c.in_ok-if_of-in-If.ensures.read ts tail stands ends in
    (Conditional x.0, at ∙ then_ok (if_of ts tail) (λ x. Ok (Conditional x)) x.0 x.1, (_, refl, x.2))

pub returns-in-Set-clause-read : goal.returns-in-Set-clause-read
returns-in-Set-clause-read c = λ k mark ts tail h marks stands ends.
    let w = c.args.work.now in
    let at = ap (λ (m : CoreKeyword). shape_of m c.args.expression mark ts tail) (is_word c.args.keyword word.Set k IsSet c.in-Set.is refl h) in
    ends_same w (ShapeFor w) (shape_of k c.args.expression mark ts tail) (shape_of IsSet c.args.expression mark ts tail) c.assignment.result at (c.assignment.ensures.read mark ts tail stands ends)

pub returns-in-Begin-clause-read : goal.returns-in-Begin-clause-read
returns-in-Begin-clause-read c = λ k mark ts tail h marks stands ends.
    let w = c.args.work.now in
    let at = ap (λ (m : CoreKeyword). shape_of m c.args.expression mark ts tail) (is_word c.args.keyword word.Begin k IsBegin c.in-Begin.is refl h) in
    ends_same w (ShapeFor w) (shape_of k c.args.expression mark ts tail) (shape_of IsBegin c.args.expression mark ts tail) c.sequence.result at (c.sequence.ensures.read mark ts tail stands ends)

pub returns-in_ok-definition_of-in-Define-clause-read : goal.returns-in_ok-definition_of-in-Define-clause-read
returns-in_ok-definition_of-in-Define-clause-read c = λ k mark ts tail h marks stands ends.
    let w = c.args.work.now in
    let at = ap (λ (m : CoreKeyword). shape_of m c.args.expression mark ts tail) (is_word c.args.keyword word.Define k IsDefine c.in-Define.is refl h) in
    let x = c.in_ok-definition_of-in-Define.ensures.read ts tail stands ends in
    ends_same w (ShapeFor w) (shape_of k c.args.expression mark ts tail) (unless_expression c.args.expression (Definition x.0)) c.unless_expression.result
    (at ∙ then_ok (definition_of same_ident ts tail) (λ x. unless_expression c.args.expression (Definition x)) x.0 x.1)
    (unless_ends w c.args.expression _ (Definition x.0) c.unless_expression.result c.unless_expression.ensures.misplaced c.unless_expression.ensures.whole x.2)

pub returns-in_ok-values_of-in-DefineValues-clause-read : goal.returns-in_ok-values_of-in-DefineValues-clause-read
returns-in_ok-values_of-in-DefineValues-clause-read c = λ k mark ts tail h marks stands ends.
    let w = c.args.work.now in
    let at = ap (λ (m : CoreKeyword). shape_of m c.args.expression mark ts tail) (is_word c.args.keyword word.DefineValues k IsDefineValues c.in-DefineValues.is refl h) in
    let x = c.in_ok-values_of-in-DefineValues.ensures.read ts tail stands ends in
    ends_same w (ShapeFor w) (shape_of k c.args.expression mark ts tail) (unless_expression c.args.expression (Several x.0)) c.unless_expression-in-DefineValues.result
    (at ∙ then_ok (values_of same_ident ts tail) (λ x. unless_expression c.args.expression (Several x)) x.0 x.1)
    (unless_ends w c.args.expression _ (Several x.0) c.unless_expression-in-DefineValues.result c.unless_expression-in-DefineValues.ensures.misplaced c.unless_expression-in-DefineValues.ensures.whole x.2)

pub returns-else-expression-clause-read : goal.returns-else-expression-clause-read
returns-else-expression-clause-read c = λ k mark ts tail h marks stands ends.
    let w = c.args.work.now in
    let at = ap (λ (m : CoreKeyword). shape_of m c.args.expression mark ts tail) (is_word c.args.keyword word.DefineRecordType k IsDefineRecordType c.in-DefineRecordType.is refl h) in
    ends_same w (ShapeFor w) (shape_of k c.args.expression mark ts tail) (record_of same_ident ts tail >> λ r. Ok (RecordType r)) c.record_of.result
    (at ∙ ap (λ (b : Bool). record_shape_of b ts tail) c.if-expression.false) (kind_ends w RecordType (record_of same_ident ts tail) c.record_of.result (c.record_of.ensures ts tail stands ends))

pub returns-in_ok-define_syntax-in-DefineSyntax-clause-read : goal.returns-in_ok-define_syntax-in-DefineSyntax-clause-read
returns-in_ok-define_syntax-in-DefineSyntax-clause-read c = λ k mark ts tail h marks stands ends.
    let w = c.args.work.now in
    let at = ap (λ (m : CoreKeyword). shape_of m c.args.expression mark ts tail) (is_word c.args.keyword word.DefineSyntax k IsDefineSyntax c.in-DefineSyntax.is refl h) in
    let x = c.in_ok-define_syntax-in-DefineSyntax.ensures.read ts tail stands ends in
    ends_same w (ShapeFor w) (shape_of k c.args.expression mark ts tail) (unless_expression c.args.expression (Syntax x.0)) c.unless_expression-in-DefineSyntax.result
    (at ∙ then_ok (syntax_of ts tail) (λ x. unless_expression c.args.expression (Syntax x)) x.0 x.1)
    (unless_ends w c.args.expression _ (Syntax x.0) c.unless_expression-in-DefineSyntax.result c.unless_expression-in-DefineSyntax.ensures.misplaced c.unless_expression-in-DefineSyntax.ensures.whole x.2)

pub returns-in-LetSyntax-clause-read : goal.returns-in-LetSyntax-clause-read
returns-in-LetSyntax-clause-read c = λ k mark ts tail h marks stands ends.
    let w = c.args.work.now in
    let at = ap (λ (m : CoreKeyword). shape_of m c.args.expression mark ts tail) (is_word c.args.keyword word.LetSyntax k IsLetSyntax c.in-LetSyntax.is refl h) in
    ends_same w (ShapeFor w) (shape_of k c.args.expression mark ts tail) (local_macros_of same_ident ts tail >> λ m. Ok (Local m)) c.local_macros_of.result at
    (kind_ends w Local (local_macros_of same_ident ts tail) c.local_macros_of.result (c.local_macros_of.ensures.read ts tail stands ends))

pub returns-in-LetrecSyntax-clause-read : goal.returns-in-LetrecSyntax-clause-read
returns-in-LetrecSyntax-clause-read c = λ k mark ts tail h marks stands ends.
    let w = c.args.work.now in
    let at = ap (λ (m : CoreKeyword). shape_of m c.args.expression mark ts tail) (is_word c.args.keyword word.LetrecSyntax k IsLetrecSyntax c.in-LetrecSyntax.is refl h) in
    ends_same w (ShapeFor w) (shape_of k c.args.expression mark ts tail) (local_macros_of same_ident ts tail >> λ m. Ok (Local m)) c.local_macros_of-in-LetrecSyntax.result at
    (kind_ends w Local (local_macros_of same_ident ts tail) c.local_macros_of-in-LetrecSyntax.result (c.local_macros_of-in-LetrecSyntax.ensures.read ts tail stands ends))

pub returns-in_ok-cond_expand_of-in-CondExpand-clause-read : goal.returns-in_ok-cond_expand_of-in-CondExpand-clause-read
returns-in_ok-cond_expand_of-in-CondExpand-clause-read c = λ k mark ts tail h marks stands ends.
    let w = c.args.work.now in
    let at = ap (λ (m : CoreKeyword). shape_of m c.args.expression mark ts tail) (is_word c.args.keyword word.CondExpand k IsCondExpand c.in-CondExpand.is refl h) in
    let x = c.in_ok-cond_expand_of-in-CondExpand.ensures.read ts tail stands ends in
    (Choices x.0, at ∙ then_ok (cond_expand_of ts tail) (λ x. Ok (Choices x)) x.0 x.1, (_, refl, x.2))

pub returns-in_ok-error_text_of-in-SyntaxError-clause-read : goal.returns-in_ok-error_text_of-in-SyntaxError-clause-read
returns-in_ok-error_text_of-in-SyntaxError-clause-read c = λ k mark ts tail h marks stands ends.
    let w = c.args.work.now in
    let at = ap (λ (m : CoreKeyword). shape_of m c.args.expression mark ts tail) (is_word c.args.keyword word.SyntaxError k IsSyntaxError c.in-SyntaxError.is refl h) in
    let x = c.in_ok-error_text_of-in-SyntaxError.ensures ts tail stands ends in
    (ErrorText x.0, at ∙ then_ok (error_text_of ts tail) (λ x. Ok (ErrorText x)) x.0 x.1, (_, refl, x.2))

pub returns-in-Include-clause-read : goal.returns-in-Include-clause-read
returns-in-Include-clause-read c = λ k mark ts tail h marks stands ends.
    let w = c.args.work.now in
    let at = ap (λ (m : CoreKeyword). shape_of m c.args.expression mark ts tail) (is_word c.args.keyword word.Include k IsInclude c.in-Include.is refl h) in
    (Inclusion, at, refl)

pub returns-in-IncludeCi-clause-read : goal.returns-in-IncludeCi-clause-read
returns-in-IncludeCi-clause-read c = λ k mark ts tail h marks stands ends.
    let w = c.args.work.now in
    let at = ap (λ (m : CoreKeyword). shape_of m c.args.expression mark ts tail) (is_word c.args.keyword word.IncludeCi k IsInclude c.in-IncludeCi.is refl h) in
    (Inclusion, at, refl)

pub returns-in_ok-definition_of-in-Define-clause-named : goal.returns-in_ok-definition_of-in-Define-clause-named
returns-in_ok-definition_of-in-Define-clause-named c = λ region named.
    unless_named c.args.work.now region c.args.expression _ c.unless_expression.result c.unless_expression.ensures.misplaced c.unless_expression.ensures.whole (c.in_ok-definition_of-in-Define.ensures.named region named)

pub returns-in_ok-values_of-in-DefineValues-clause-named : goal.returns-in_ok-values_of-in-DefineValues-clause-named
returns-in_ok-values_of-in-DefineValues-clause-named c = λ region named.
    unless_named c.args.work.now region c.args.expression _ c.unless_expression-in-DefineValues.result c.unless_expression-in-DefineValues.ensures.misplaced c.unless_expression-in-DefineValues.ensures.whole (c.in_ok-values_of-in-DefineValues.ensures.named region named)

pub returns-in_ok-define_syntax-in-DefineSyntax-clause-named : goal.returns-in_ok-define_syntax-in-DefineSyntax-clause-named
returns-in_ok-define_syntax-in-DefineSyntax-clause-named c = λ region named.
    unless_named c.args.work.now region c.args.expression _ c.unless_expression-in-DefineSyntax.result c.unless_expression-in-DefineSyntax.ensures.misplaced c.unless_expression-in-DefineSyntax.ensures.whole (c.in_ok-define_syntax-in-DefineSyntax.ensures.named region named)
