use Rattle.std.proofs.Common.{◌≡◌, map, Some, vec_len, vec_capacity}
use Rattle.relations.specs.Positions.{numbers}
use Rattle.live.specs.Leaving.{goes_at, place_left, rank_of}
use Rattle.live.proofs.ranks.write_ranks.Given as goal

abbrev pub invariant-loop-row : goal.invariant-loop-row
invariant-loop-row l = record {
  ranks : l.ranks.items ≡ map (rank_of (goes_at l.at l.count l.watches (Some l.over))) (numbers l.row);
  rank : l.rank ≡ place_left (goes_at l.at l.count l.watches (Some l.over)) l.row;
  len : vec_len l.ranks ≡ l.row;
  capacity : vec_capacity l.ranks ≡ vec_capacity l.fn.ranks;
}
