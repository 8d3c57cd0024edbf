-- An arbiter as its state. Cited by its methods.
use Rattle.model.specs.State.{State}
use Rattle.call.specs.View.{view}
use Rattle.arbiter.specs.declared.arbiter.Arbiter.{Arbiter}

-- the call's tables as lists, with the rows of the register that it holds
abbrev pub seen : Arbiter → State
seen a = view a.call a.register.now
