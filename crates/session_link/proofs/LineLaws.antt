-- Laws of the effect of one line.
use Rattle.std.proofs.Common.{◌≡◌, ℕ, Bool, true, false, ◌==◌, List, [], ◌∷◌, length, refl, ap, subst, sym, ◌∙◌, inr, arith, eqb-true}
use Rattle.agg_outside.specs.declared.disk.Disk.{Ghosts as DiskGhosts}
use Rattle.line_words.specs.declared.reply.Reply.{Reply}
use Rattle.line_words.specs.Requests.{request_of}
use Rattle.line_words.specs.Replies.{reply_text}
use Rattle.session_link.specs.declared.limits.Limits.{Limits}
use Rattle.session_link.specs.declared.session.Session.{Session}
use Rattle.session_link.specs.State.{State, Outcome}
use Rattle.session_link.specs.Effects.{Effect, effect_of, read_outcome, short_effect}
use Rattle.agg_model.specs.ChangeList.{ChangeList}
use Rattle.state_store.specs.declared.store.Store.{Store}
use Rattle.state_store.specs.Store.{Holds}
use Rattle.session_link.proofs.StoreLaws.{kept}
use Rattle.session_link.specs.Running.{Stands, Answers, HasEffect, EndsAt}

pub short_effect-empty : (limits : Limits) (number : ℕ) (line : List ℕ) (s : State) → line ≡ [] → short_effect limits number line s ≡ record { state = s; reply = []; settled = 0 }
short_effect-empty limits number line s empty = ap (λ l. short_effect limits number l s) empty

pub short_effect-some : (limits : Limits) (number : ℕ) (line : List ℕ) (s : State) → (length line ≡ 0 → ⊥) → short_effect limits number line s ≡ effect_of (read_outcome limits number (request_of line) s)
short_effect-some limits number [] s some = absurd (some refl)
short_effect-some limits number (b ∷ line) s some = refl

-- a line that leaves the session as it is
pub effect_same : {D K : Type 0} (disk : DiskGhosts D) (session : Session D K) (text : List ℕ) (s : State) (d : Effect) → d ≡ record { state = s; reply = text; settled = 0 } → Stands disk session s → HasEffect disk session text d
effect_same disk session text s d e stands =
    subst (λ (x : Effect). HasEffect disk session text x) (sym e) (record { told = refl; stands = stands; settled = omega arith })

-- a line whose reply was found
pub effect_told : {D K : Type 0} (disk : DiskGhosts D) (session : Session D K) (reply : Reply) (text : List ℕ) (out : Outcome) (d : Effect) → d ≡ effect_of out → Answers disk session reply out → text ≡ reply_text reply → HasEffect disk session text d
effect_told disk session reply text out d e answers printed =
    subst (λ (x : Effect). HasEffect disk session text x) (sym e)
    (record { told = printed ∙ ap reply_text answers.told; stands = answers.stands; settled = answers.settled })

-- where the reply can't be printed the line has been worked on
pub ends_after : {D K : Type 0} (disk : DiskGhosts D) (session : Session D K) (reply : Reply) (before : State) (out : Outcome) (d : Effect) → d ≡ effect_of out → Answers disk session reply out → EndsAt disk session.store before.list d.state.list
ends_after disk session reply before out d e answers =
    inr (kept disk session.store d.state.list (subst (λ (x : Effect). Holds disk session.store x.state.list) (sym e) answers.stands.list))

pub no_bytes : (b : Bool) (line : List ℕ) → b ≡ (length line == 0) → b ≡ true → line ≡ []
no_bytes b [] e h = refl
no_bytes b (x ∷ line) e h = let none : length (x ∷ line) ≡ 0 = eqb-true (length (x ∷ line)) 0 (sym e ∙ h) in absurd (omega arith)

pub some_bytes : (b : Bool) (line : List ℕ) → b ≡ (length line == 0) → b ≡ false → length line ≡ 0 → ⊥
some_bytes b [] e h z = cc
some_bytes b (x ∷ line) e h z = absurd (omega arith)
