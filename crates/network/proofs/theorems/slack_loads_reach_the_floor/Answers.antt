-- `slack_loads_reach_the_floor` asserts `slackness`.
use Rattle.network.proofs.Duality.{slackness}
use Rattle.network.proofs.theorems.slack_loads_reach_the_floor.Goals as goal

pub returns : goal.returns
returns c = slackness
