-- What clauses say of a pass and of a turn.
use Rattle.std.specs.Prelude.{◌≡◌, ◌⊎◌, ◌+◌, true, false, List, [], ◌∷◌, None}
use Rattle.turn_cell.specs.declared.cell.TurnCell.{TurnCell}
use Rattle.turn_cell.specs.declared.turn.Turn.{Turn}
use Rattle.turn_cell.specs.declared.view.Stage.TheVariants.{Idle, HasTurn}
use Rattle.turn_cell.specs.declared.view.Knowledge.{Knowledge}
use Rattle.turn_cell.specs.declared.view.View.{View}
use Rattle.turn_cell.specs.declared.pass.PassOf.{PassOf}
use Rattle.turn_cell.specs.Rule.{spent}

module _ {R T : Type 0} where
  abbrev pub one_view : List (View R T) → View R T
  one_view [] = spent
  one_view (v ∷ vs) = v

  -- what a pass at rest knows: its number, start, seen and mine, and of pass 0 made, out and ended
  abbrev pub knowledge_of : PassOf R T → Knowledge R T
  knowledge_of p = (one_view p.badge.views).knowledge

  -- pass 0 after a split
  abbrev pub after_split : Knowledge R T → Knowledge R T
  after_split m = record m { made = m.made + 1; out = m.out + 1 }

  -- pass 0 after a split that was refused: one number more may have been given out, to no pass
  abbrev pub IsRefusedSplit : Knowledge R T → Knowledge R T → Type 0
  IsRefusedSplit old new = (new ≡ old) ⊎ (new ≡ record old { made = old.made + 1 })

module _ {S R T : Type 0} where
  -- a pass of this cell that does not have its turn
  pub record IsAtRest (cell : TurnCell S R T) (p : PassOf R T) : Type 0 where
    pub own : p.badge.table_id ≡ cell.table.shared.table_id
    pub one : p.badge.views ≡ one_view p.badge.views ∷ []
    pub numbered : p.number ≡ (one_view p.badge.views).knowledge.number
    pub idle : (one_view p.badge.views).place.stage ≡ Idle
    pub alive : (one_view p.badge.views).knowledge.live ≡ true
    pub calm : (one_view p.badge.views).knowledge.splitting ≡ false

  -- what a pass knows while it has this turn
  abbrev pub knowledge_in : Turn S R T → Knowledge R T
  knowledge_in turn = turn.seat.me.0.knowledge

  -- a turn of this cell, taken with this pass, which is away meanwhile
  pub record IsTurnOf (cell : TurnCell S R T) (p : PassOf R T) (turn : Turn S R T) : Type 0 where
    pub own : turn.seat.table_id ≡ cell.table.shared.table_id
    pub away : p.badge.views ≡ []
    pub numbered : p.number ≡ (knowledge_in turn).number
    pub has_turn : turn.seat.me.0.place.stage ≡ HasTurn
    pub alive : (knowledge_in turn).live ≡ true
    pub calm : (knowledge_in turn).splitting ≡ false
    pub holds : turn.seat.me.1 ≡ (0, None) ∷ []

  -- the history that the turn found
  abbrev pub found_of : Turn S R T → List R
  found_of turn = turn.seat.me.0.place.found
