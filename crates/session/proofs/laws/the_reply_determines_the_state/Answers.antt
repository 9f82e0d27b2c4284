use Rattle.session.proofs.Alike.{answers_alike}
use Rattle.session.proofs.laws.the_reply_determines_the_state.Goals as goal

pub returns : goal.returns
returns c = answers_alike (record {
  call = c.one_meaning.ensures;
  not_both = c.one_offence.ensures.not_both;
  follows = c.follows_unique.ensures;
  stands = c.one_commit.ensures;
  before = c.a_file_has_one_answer.ensures.before;
})
