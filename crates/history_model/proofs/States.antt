-- One event more makes of the queues what its acts do.
use Rattle.std.proofs.Common.{◌≡◌, ℕ, zero, suc, ◌+◌, cond, true, false, List, [], ◌∷◌, ◌++◌, Option, None, Some, ◌∙◌, ap, refl, fold}
use Rattle.std.proofs.lemmas.List.Sums.{fold-append}
use Rattle.amqp_terms.specs.declared.unit.Unit.TheVariants as unit
use Rattle.amqp_terms.specs.declared.command.Command.{Command}
use Rattle.amqp_terms.specs.declared.event.HubEvent.{HubEvent}
use Rattle.amqp_terms.specs.declared.event.HubEvent.TheVariants as event
use Rattle.history_model.specs.Arrivals.{Arrival, Hears}
use Rattle.history_model.specs.Life.{Heard, number, is_new}
use Rattle.history_model.specs.Standing.{World, world, life_at, may_attach}
use Rattle.history_model.specs.State.{State, state, acts, acted, does, event_acts, command_acts, control_acts, queues_after, queues_by, Begin, Do, ends_on, ends_from, channels}
use Rattle.amqp_terms.specs.declared.control.Control.{Control}
use Rattle.amqp_terms.specs.declared.control.Control.TheVariants.{SessionAttach}

-- a control leaves the queues
control_queues : (s : State) (w : World) (c k : ℕ) (control : Control) → (fold acted s (control_acts w c k control)).queues ≡ s.queues
control_queues s w c k (SessionAttach (Some name) force) =
    elim (may_attach w c k name) as (λ b. (fold acted s (cond b (Begin name ∷ []) [])).queues ≡ s.queues) [ true ↦ refl | false ↦ refl ]
control_queues s w c k control = refl

-- a command does what it does where it is new
life_queues : (s : State) (name : List ℕ) (life : Option (List Heard)) (command : Command) → (fold acted s (command_acts (Some name) life command)).queues ≡ queues_by life s.queues command
life_queues s name None command = refl
life_queues s name (Some life) command =
    elim (is_new life) as (λ b. (fold acted s (cond b (Do name (number life) command ∷ []) [])).queues ≡ cond b (does (record { queues = s.queues }) command).queues s.queues) [ true ↦ refl | false ↦ refl ]

command_queues : (s : State) (w : World) (holder : Option (List ℕ)) (command : Command) → (fold acted s (command_acts holder (life_at w holder) command)).queues ≡ queues_by (life_at w holder) s.queues command
command_queues s w None command = refl
command_queues s w (Some name) command = life_queues s name (life_at w (Some name)) command

-- sessions that end leave the queues
ends_queues : (n : ℕ) (s : State) (w : World) (c k : ℕ) → (fold acted s (ends_from n w c k)).queues ≡ s.queues
unfolding ends_from
ends_queues zero s w c k = refl
ends_queues (suc n) s w c k =
    elim (w.holder c k) as (λ o. (fold acted s (ends_on o ++ ends_from n w c (k + 1))).queues ≡ s.queues) [ None ↦ ends_queues n s w c (k + 1) | Some name ↦ ends_queues n s w c (k + 1) ]

event_queues : (s : State) (w : World) (e : HubEvent) → (fold acted s (event_acts w e)).queues ≡ queues_after w s.queues e
event_queues s w event.Join = refl
event_queues s w (event.Unit c k (unit.Control control)) = control_queues s w c k control
event_queues s w (event.Unit c k (unit.Command sync command content)) = command_queues s w (w.holder c k) command
event_queues s w (event.Drain c) = refl
event_queues s w (event.Lost c) = ends_queues channels s w c 0
event_queues s w (event.Tick now) = refl

pub state_event : (h : List Arrival) (e : HubEvent) → (state (Hears e ∷ h)).queues ≡ queues_after (world h) (state h).queues e
unfolding state
state_event h e = ap (λ (s : State). s.queues) (fold-append acted (record { queues = [] }) (acts h) (event_acts (world h) e)) ∙ event_queues (fold acted (record { queues = [] }) (acts h)) (world h) e

-- at first no queue is there
pub state_none : (state []).queues ≡ []
unfolding state
state_none = refl
