-- The turn of one row, as what a watch answers to an edit; and the answer to an edit of no rows.
use Rattle.std.specs.Prelude.{ℕ}
use Rattle.live.specs.States.{WatchState}
use Rattle.live.specs.declared.answer.Answer.{Answer}
use Rattle.live.specs.declared.answer.Answer.TheVariants.{Nothing, Insert, Remove, Change, Move}
use Rattle.live.specs.declared.turn.Turn.{Turn}
use Rattle.live.specs.declared.turn.Turn.TheVariants.{Still, Comes, Goes, Changes, Moves}

-- a turn of one row as an answer, where the row that comes does so many times
abbrev pub answer_of : ℕ → Turn → Answer
answer_of count Still = Nothing
answer_of count (Comes p) = Insert p count
answer_of count (Goes p) = Remove p 1
answer_of count (Changes p) = Change p
answer_of count (Moves p q) = Move p q

-- a watch that has answered nothing
abbrev pub still_watch : WatchState → WatchState
still_watch w = record {
  number = w.number;
  source = w.source;
  op = w.op;
  kept = w.kept;
  room = w.room;
  going = w.going;
  turn = w.turn;
  answer = Nothing;
  followed = w.followed;
}
