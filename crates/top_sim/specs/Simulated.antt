-- What a simulation gives, or how it is refused.
use Rattle.std.specs.Prelude.{◌≡◌, ◌<◌, ◌≤◌, ℕ, List, [], length, Option, Result, slice_index_or}
use Rattle.raid_text.specs.Text.{Text}
use Rattle.sim_queue.specs.Replies.{reply_at, service_at}
use Rattle.sim_queue.specs.Service.{IsService}
use Rattle.sim_queue.specs.declared.request.Queue.{Queue}
use Rattle.sim_queue.specs.declared.request.Request.{Request}
use Rattle.sim_queue.specs.declared.request.Served.{Served}
use Rattle.top_fetch.specs.Fetched.{or_status}
use Rattle.top_sim.specs.Asked.{Workload}
use Rattle.top_sim.specs.Texts.{workload_of}
use Rattle.top_status.specs.Refusals.{Refused, ◌then◌, text_in}
use Rattle.top_status.specs.declared.status.Status.TheVariants as status

-- what the text of this name asks for
unfoldable pub workload_in : (Text → Option Text) → Text → Result Workload Refused
workload_in texts name =
    text_in texts name then λ text.
    or_status (λ at. status.Conf at.line at.code) (workload_of text)

-- These are the services of the requests by this order, and what each request is replied by a disk
-- of so many sectors of zeros.
pub record IsSimulated (order : Queue) (sectors : ℕ) (requests : List Request)
    (services : List Served) (replies : List (List (List ℕ))) : Type 0 where
  pub services_are : IsService requests order services
  pub replies_are : (place : ℕ) → place < length services
      → slice_index_or replies (service_at services place).request [] ≡ reply_at sectors requests services place
  pub count : length replies ≡ length requests
  pub few : length requests ≤ 4096
