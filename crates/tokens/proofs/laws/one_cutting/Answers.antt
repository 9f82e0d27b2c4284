use Rattle.tokens.proofs.Chains.{cut_once, cut_or_flawed, cut_up_to_once, flawed_once}
use Rattle.tokens.proofs.laws.one_cutting.Goals as goal

pub returns-clause-one_cutting : goal.returns-clause-one_cutting
returns-clause-one_cutting c = λ content one two h k. cut_once 0 content one two h k

pub returns-clause-one_flaw : goal.returns-clause-one_flaw
returns-clause-one_flaw c = λ content one two h k. flawed_once 0 content h.0 k.0 one two h.1 k.1

pub returns-clause-not_both : goal.returns-clause-not_both
returns-clause-not_both c = λ content pieces flaw h k. cut_or_flawed 0 content pieces k.0 flaw h k.1

pub returns-clause-one_front : goal.returns-clause-one_front
returns-clause-one_front c = cut_up_to_once
