-- What a line makes of a session.
use Rattle.std.specs.Prelude.{ℕ, List, [], ◌∷◌, Result, Ok, Err}
use Rattle.line_words.specs.declared.request.Request.{Request}
use Rattle.line_words.specs.declared.request.LineError.{LineError}
use Rattle.line_words.specs.declared.request.LineError.TheVariants as errors
use Rattle.line_words.specs.declared.reply.Reply.{Reply}
use Rattle.line_words.specs.declared.reply.Reply.TheVariants as says
use Rattle.line_words.specs.Requests.{request_of}
use Rattle.line_words.specs.Replies.{reply_text}
use Rattle.session_link.specs.declared.limits.Limits.{Limits}
use Rattle.session_link.specs.State.{State, Outcome, replied, outcome}

-- what a line is replied that makes no request; want of memory is never why
abbrev pub line_refusal : ℕ → LineError → Reply
line_refusal number errors.Syntax = says.ErrSyntax number
line_refusal number (errors.Length length) = says.ErrLength length
line_refusal number errors.Entity = says.ErrEntity
line_refusal number errors.Memory = says.ErrSyntax number

-- the line of this number, as it was read
abbrev pub read_outcome : Limits → ℕ → Result Request LineError → State → Outcome
read_outcome limits number (Ok request) s = outcome limits request s
read_outcome limits number (Err error) s = replied s (line_refusal number error)

-- the state after a line, and the text of its reply; and how many first steps are in files from then on
pub record Effect : Type 0 where
  pub state : State
  pub reply : List ℕ
  pub settled : ℕ

abbrev pub effect_of : Outcome → Effect
effect_of o = record { state = o.state; reply = reply_text o.reply; settled = o.settled }

-- a line within the limit; an empty one has no reply
abbrev pub short_effect : Limits → ℕ → List ℕ → State → Effect
short_effect limits number [] s = record { state = s; reply = []; settled = 0 }
short_effect limits number (b ∷ line) s = effect_of (read_outcome limits number (request_of (b ∷ line)) s)
