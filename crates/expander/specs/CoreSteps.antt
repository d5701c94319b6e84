-- What is done with a core form as an expression, once it was read (R7RS 4.1, 4.2).
use Rattle.std.specs.Prelude.{ℕ, List}
use Rattle.scheme_model.specs.Ident.{Ident as Identifier}
use Rattle.scheme_model.specs.Keywords.{CoreKeyword, IsQuote, IsQuasiquote, IsLambda, IsCaseLambda, IsIf, IsSet, IsBegin, IsDefine, IsDefineValues, IsDefineRecordType, IsDefineSyntax, IsLetSyntax, IsLetrecSyntax, IsCondExpand, IsSyntaxError, IsInclude}
use Rattle.scheme_model.specs.Trees.{Trees}
use Rattle.scheme_model.specs.Shapes.{Clause, LocalMacros}
use Rattle.scheme_model.specs.ExpansionFaults.{BadPlace, SyntaxError, IncludeRefused}
use Rattle.scheme_model.specs.Cores.{Core, CaseLambda, If}
use Rattle.scheme_model.specs.Steps.{Step, ◌>>=◌, done, fails}
use Rattle.scheme_model.specs.Order.{Here, Ops, given}
use Rattle.scheme_model.specs.Expression.{Expander, whole, node, each, clauses, quote, quasi, lambda, set, sequence, let_syntax, letrec_syntax, chosen_sequence}
use Rattle.core_forms.specs.Forms.{Shape, Quoted, Quasi, Procedure, Procedures, Conditional, Assignment, Sequence, Definition, Several, RecordType, Syntax, Local, Choices, ErrorText, Inclusion}
use Rattle.feature_requirements.specs.Judged.{chosen_among}

-- the local macros of one keyword see their own names
abbrev pub local_step : {E L S : Type 0} → Expander E Identifier S → Ops E Identifier L S → ℕ → Here → E → CoreKeyword → LocalMacros Identifier → Step S Core
local_step f ops depth here e IsLetrecSyntax m s = letrec_syntax f ops depth here e m s
local_step f ops depth here e IsQuote m s = let_syntax f ops depth here e m s
local_step f ops depth here e IsQuasiquote m s = let_syntax f ops depth here e m s
local_step f ops depth here e IsLambda m s = let_syntax f ops depth here e m s
local_step f ops depth here e IsCaseLambda m s = let_syntax f ops depth here e m s
local_step f ops depth here e IsIf m s = let_syntax f ops depth here e m s
local_step f ops depth here e IsSet m s = let_syntax f ops depth here e m s
local_step f ops depth here e IsBegin m s = let_syntax f ops depth here e m s
local_step f ops depth here e IsDefine m s = let_syntax f ops depth here e m s
local_step f ops depth here e IsDefineValues m s = let_syntax f ops depth here e m s
local_step f ops depth here e IsDefineRecordType m s = let_syntax f ops depth here e m s
local_step f ops depth here e IsDefineSyntax m s = let_syntax f ops depth here e m s
local_step f ops depth here e IsLetSyntax m s = let_syntax f ops depth here e m s
local_step f ops depth here e IsCondExpand m s = let_syntax f ops depth here e m s
local_step f ops depth here e IsSyntaxError m s = let_syntax f ops depth here e m s
local_step f ops depth here e IsInclude m s = let_syntax f ops depth here e m s

abbrev pub case_lambda : {E L S : Type 0} → Expander E Identifier S → Ops E Identifier L S → ℕ → Here → E → List (Clause Identifier) → Step S Core
case_lambda f ops depth here e cs s = node ops here 1 depth (λ below t. clauses f ops below here e cs t >>= λ more. done (CaseLambda more)) s

abbrev pub conditional : {E L S : Type 0} → Expander E Identifier S → Ops E Identifier L S → ℕ → Here → E → Trees Identifier → Step S Core
conditional f ops depth here e us s = node ops here 1 depth (λ below t. each (λ u. f below here e (whole u)) us t >>= λ cs. done (If cs)) s

abbrev pub core_step : {E L S : Type 0} → Expander E Identifier S → Ops E Identifier L S → ℕ → Here → E → CoreKeyword → Shape → Step S Core
core_step f ops depth here e k (Quoted t) s = quote ops depth here t s
core_step f ops depth here e k (Quasi t p) s = quasi f ops depth here e p s
core_step f ops depth here e k (Procedure c) s = lambda f ops depth here e c s
core_step f ops depth here e k (Procedures cs) s = case_lambda f ops depth here e cs s
core_step f ops depth here e k (Conditional us) s = conditional f ops depth here e us s
core_step f ops depth here e k (Assignment p) s = set f ops depth here e p s
core_step f ops depth here e k (Sequence ts) s = sequence f ops depth here e ts s
core_step f ops depth here e k (Choices cs) s = given ops.plain here (chosen_among ops.known cs) s >>= chosen_sequence f ops depth here e
core_step f ops depth here e k (Local m) s = local_step f ops depth here e k m s
core_step f ops depth here e k (ErrorText text) s = fails here (SyntaxError text) s
core_step f ops depth here e k Inclusion s = fails here IncludeRefused s
core_step f ops depth here e k (Definition d) s = fails here BadPlace s
core_step f ops depth here e k (Several d) s = fails here BadPlace s
core_step f ops depth here e k (RecordType r) s = fails here BadPlace s
core_step f ops depth here e k (Syntax d) s = fails here BadPlace s

-- a shape that is left to be done once it was read: a datum that is quoted, the text of a fault and an inclusion are done at once
abbrev pub IsLeft : Shape → Type 0
IsLeft (Quoted t) = ⊥
IsLeft (Quasi t p) = Unit {0}
IsLeft (Procedure c) = Unit {0}
IsLeft (Procedures cs) = Unit {0}
IsLeft (Conditional us) = Unit {0}
IsLeft (Assignment p) = Unit {0}
IsLeft (Sequence ts) = Unit {0}
IsLeft (Definition d) = Unit {0}
IsLeft (Several d) = Unit {0}
IsLeft (RecordType r) = Unit {0}
IsLeft (Syntax d) = Unit {0}
IsLeft (Local m) = Unit {0}
IsLeft (Choices cs) = Unit {0}
IsLeft (ErrorText text) = ⊥
IsLeft Inclusion = ⊥
