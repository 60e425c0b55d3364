-- What a refusal carries: its number, its place and its layer, case by case; and how it is written.
use Rattle.std.specs.Prelude.{ℕ, List, ◌++◌, codes}
use Rattle.std.specs.Fmt.{decimal}
use Rattle.cost.specs.declared.numbers.NumberFault.{NumberFault}
use Rattle.cost.specs.declared.numbers.NumberFault.TheVariants.{Outside}
use Rattle.cost.specs.declared.refusals.CostFault.{CostFault}
use Rattle.cost.specs.declared.refusals.CostFault.TheVariants.{Number, Pieces, Long, Falls, Steep}
use Rattle.cost.specs.declared.refusals.Layer.{Layer}
use Rattle.cost.specs.declared.refusals.Layer.TheVariants.{Cost, Draft, Sheet, Record}
use Rattle.cost.specs.declared.refusals.Refusal.{Refusal}

-- A refusal by its three parts.
abbrev pub refusal : ℕ → ℕ → Layer → Refusal
refusal number place layer = record { number = number; place = place; layer = layer }

-- A number outside its limits is refused in the layer that asked for it.
abbrev pub number_refusal : Layer → NumberFault → Refusal
number_refusal layer (Outside position) = refusal 3 position layer

-- Every refusal of a cost is in the layer of costs.
abbrev pub cost_refusal : CostFault → Refusal
cost_refusal Pieces = refusal 1 0 Cost
cost_refusal (Number fault) = number_refusal Cost fault
cost_refusal (Long piece) = refusal 4 piece Cost
cost_refusal (Falls piece) = refusal 5 piece Cost
cost_refusal Steep = refusal 6 0 Cost

-- The word of a layer.
abbrev pub layer_word : Layer → List ℕ
layer_word Cost = codes "cost"
layer_word Draft = codes "draft"
layer_word Sheet = codes "sheet"
layer_word Record = codes "record"

-- A refusal is written as its number, its place and the word of its layer, parted by spaces.
abbrev pub refusal_text : Refusal → List ℕ
refusal_text r = decimal r.number ++ codes " " ++ decimal r.place ++ codes " " ++ layer_word r.layer
