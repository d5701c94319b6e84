use Rattle.std.specs.Str.{chars}
use Rattle.scheme_tokens.specs.Views.{tokens_of}
use Rattle.scheme_tokens.proofs.Readings.{only_tokens, never_stops, only_memory, stop_told, front_whole, front_explains}
use Rattle.scheme_tokens.proofs.reader.tokens.Goals as goal

pub returns-in-None-clause-found : goal.returns-in-None-clause-found
returns-in-None-clause-found c =
    front_whole c.in_ok-front.front.tokens c.in_ok-front.front.fault (chars c.args.text.now) c.in-None.is c.in_ok-front.ensures.front

pub returns-in-None-clause-only : goal.returns-in-None-clause-only
returns-in-None-clause-only c = λ ts h. only_tokens (tokens_of c.in_ok-front.front.tokens) ts (chars c.args.text.now) (returns-in-None-clause-found c) h

pub returns-in-None-clause-stops : goal.returns-in-None-clause-stops
returns-in-None-clause-stops c = λ f h. never_stops (tokens_of c.in_ok-front.front.tokens) f (chars c.args.text.now) (returns-in-None-clause-found c) h

pub returns-in-Some-clause-fault : goal.returns-in-Some-clause-fault
returns-in-Some-clause-fault c =
    front_explains c.in_ok-front.front.tokens c.in-Some.fault c.in_ok-front.front.fault (chars c.args.text.now) c.in-Some.is c.in_ok-front.ensures.front

pub returns-in-Some-clause-only : goal.returns-in-Some-clause-only
returns-in-Some-clause-only c = λ ts h. only_memory c.in-Some.fault ts (chars c.args.text.now) (returns-in-Some-clause-fault c) h

pub returns-in-Some-clause-stops : goal.returns-in-Some-clause-stops
returns-in-Some-clause-stops c = λ f h. stop_told c.in-Some.fault f (chars c.args.text.now) (returns-in-Some-clause-fault c) h
