-- A client that is made of its parts.
use Rattle.std.proofs.Common.{◌≡◌, ℕ, List, [], replicate, ap, ◌∙◌, Option, None}
use Rattle.lay_core.specs.Touched.{Touched, nothing}
use Rattle.graph_mean.specs.declared.step.Phase.TheVariants as phase
use Rattle.graph_mean.specs.Graph.{Held, blank}
use Rattle.graph_mean.specs.Task.{Aim, no_task}
use Rattle.eng_one.specs.Control.{Control}
use Rattle.eng_cols.specs.declared.spot.Spot.{Spot}
use Rattle.eng_world.specs.declared.item.Item.{Item}
use Rattle.eng_world.specs.declared.item.Reply.{Reply}
use Rattle.eng_clients.specs.declared.stage.Stage.TheVariants.{Nothing}
use Rattle.eng_clients.specs.Desk.{Desk}
use Rattle.eng_clients.specs.Fresh.{new_desk}

abbrev desk-of : List Item → List Reply → Control → Held → Aim → Touched → List (Option ℕ) → List ℕ → List (Option Spot) → Desk
desk-of items replies run graph task map missing lease spots = record { items = items; replies = replies; stage = Nothing; run = run; graph = graph; task = task; map = map; missing = missing; lease = lease; spots = spots; by = None; file = None }

abbrev idle-run : Control
idle-run = record { graph = blank; marks = []; phase = phase.Undone }

abbrev empty-graph : Held
empty-graph = record { drawn = blank; node_room = 2048; buf_room = 2048; edge_room = 16384 }

pub made : {items given : List Item} {replies : List Reply} {run : Control} {graph : Held} {task : Aim} {map : Touched} {missing : List (Option ℕ)} {lease : List ℕ} {spots : List (Option Spot)}
    → items ≡ given → replies ≡ [] → run ≡ idle-run → graph ≡ empty-graph → task ≡ no_task → map ≡ nothing → missing ≡ [] → lease ≡ [] → spots ≡ replicate 2048 None
    → desk-of items replies run graph task map missing lease spots ≡ new_desk given
made {items} {given} {replies} {run} {graph} {task} {map} {missing} {lease} {spots} i r u h t m q l s =
    ap (λ (x : List Item). desk-of x replies run graph task map missing lease spots) i
    ∙ (ap (λ (x : List Reply). desk-of given x run graph task map missing lease spots) r
    ∙ (ap (λ (x : Control). desk-of given [] x graph task map missing lease spots) u
    ∙ (ap (λ (x : Held). desk-of given [] idle-run x task map missing lease spots) h
    ∙ (ap (λ (x : Aim). desk-of given [] idle-run empty-graph x map missing lease spots) t
    ∙ (ap (λ (x : Touched). desk-of given [] idle-run empty-graph no_task x missing lease spots) m
    ∙ (ap (λ (x : List (Option ℕ)). desk-of given [] idle-run empty-graph no_task nothing x lease spots) q
    ∙ (ap (λ (x : List ℕ). desk-of given [] idle-run empty-graph no_task nothing [] x spots) l
    ∙ ap (λ (x : List (Option Spot)). desk-of given [] idle-run empty-graph no_task nothing [] [] x) s)))))))
