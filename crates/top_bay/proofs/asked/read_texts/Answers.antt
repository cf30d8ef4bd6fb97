use Rattle.std.proofs.Common.{◌≡◌, ◌∙◌, List, Ok, map, sym, ap, subst}
use Rattle.std.specs.Prelude.{Option}
use Rattle.raid_text.specs.Text.{Text}
use Rattle.top_words.specs.Views.{command_seen}
use Rattle.top_fetch.specs.Answers.{RefusedAs}
use Rattle.raid_script.specs.declared.join.Join.{Join}
use Rattle.raid_script.specs.Asked.{Asked as Item, seen}
use Rattle.top_bay.specs.Asked.{Asked, book_in, script_in, texts_in}
use Rattle.top_bay.proofs.Asking.{all_read, book_in-same, refused_book, refused_component, refused_script, script_in-same}
use Rattle.top_bay.proofs.asked.read_texts.Goals as goal

pub returns-in-Err-open_component-clause-answer : goal.returns-in-Err-open_component-clause-answer
returns-in-Err-open_component-clause-answer g c = λ told.
    let B = g.B.Bay in
    refused_component (B.text_of c.args.bay.now) (command_seen c.args.command) c.in-Ok.conf c.in-Err-open_component.status
    (c.in-Ok.ensures.answer told) c.in-Err-open_component.ensures.answer

pub returns-in-Err-open_book-clause-answer : goal.returns-in-Err-open_book-clause-answer
returns-in-Err-open_book-clause-answer g c = λ told.
    let B = g.B.Bay in
    let texts = B.text_of c.args.bay.now in
    let s = c.in-Err-open_book.status in
    refused_book texts (command_seen c.args.command) c.in-Ok.conf c.in-Ok-open_component.comp s (c.in-Ok.ensures.answer told) c.in-Ok-open_component.ensures.answer
    (subst (λ (o : Option Text). RefusedAs s (book_in texts o)) c.graphs_name.ensures
    (subst (λ w. RefusedAs s w) (book_in-same texts (B.text_of c.open_conf.new.bay) _ (c.in-Ok.ensures.read.texts told)) (c.in-Err-open_book.ensures.answer told)))

pub returns-in-Err-open_script-clause-answer : goal.returns-in-Err-open_script-clause-answer
returns-in-Err-open_script-clause-answer g c = λ told.
    let B = g.B.Bay in
    let texts = B.text_of c.args.bay.now in
    let s = c.in-Err-open_script.status in
    let conf = c.in-Ok.conf in
    let book = c.in-Ok-open_book.book in
    let same : (n : Text) → B.text_of c.open_book.new.bay n ≡ texts n = λ n. c.in-Ok-open_book.ensures.read.texts told n ∙ c.in-Ok.ensures.read.texts told n in
    refused_script texts (command_seen c.args.command) conf c.in-Ok-open_component.comp book s (c.in-Ok.ensures.answer told) c.in-Ok-open_component.ensures.answer
    (ap (λ (o : Option Text). book_in texts o) (sym c.graphs_name.ensures) ∙ (sym (book_in-same texts (B.text_of c.open_conf.new.bay) _ (c.in-Ok.ensures.read.texts told)) ∙ c.in-Ok-open_book.ensures.answer told))
    (subst (λ (o : Option Text). RefusedAs s (script_in texts o book conf.columns)) c.script_name-script.ensures
    (subst (λ w. RefusedAs s w) (script_in-same texts (B.text_of c.open_book.new.bay) _ book conf.columns same) (c.in-Err-open_script.ensures.answer told)))

-- what is asked for, by what the script's parts are
abbrev with_parts : Asked → List (List Item) → List Join → Asked
with_parts k clients joins = record k { clients = clients; joins = joins }

pub returns-clause-answer : goal.returns-clause-answer
returns-clause-answer g c = λ told.
    let B = g.B.Bay in
    let texts = B.text_of c.args.bay.now in
    let conf = c.in-Ok.conf in
    let book = c.in-Ok-open_book.book in
    let script = c.in-Ok-open_script.script in
    let same : (n : Text) → B.text_of c.open_book.new.bay n ≡ texts n = λ n. c.in-Ok-open_book.ensures.read.texts told n ∙ c.in-Ok.ensures.read.texts told n in
    let k : Asked = record { command = command_seen c.args.command; conf = conf; comp = c.in-Ok-open_component.comp; book = book; clients = script.clients; joins = script.joins } in
    let read : texts_in texts (command_seen c.args.command) ≡ Ok k =
    all_read texts (command_seen c.args.command) conf c.in-Ok-open_component.comp book script (c.in-Ok.ensures.answer told) c.in-Ok-open_component.ensures.answer
    (ap (λ (o : Option Text). book_in texts o) (sym c.graphs_name.ensures) ∙ (sym (book_in-same texts (B.text_of c.open_conf.new.bay) _ (c.in-Ok.ensures.read.texts told)) ∙ c.in-Ok-open_book.ensures.answer told))
    (ap (λ (o : Option Text). script_in texts o book conf.columns) (sym c.script_name-script.ensures) ∙ (sym (script_in-same texts (B.text_of c.open_book.new.bay) _ book conf.columns same) ∙ c.in-Ok-open_script.ensures.answer told)) in
    read ∙ (ap (λ (cs : List (List Item)). Ok (with_parts k cs script.joins)) (sym c.into_parts-clients.ensures.clients)
    ∙ ap (λ (js : List Join). Ok (with_parts k (map (λ items. map seen items.items) c.into_parts-clients.result.0.items) js)) (sym c.into_parts-clients.ensures.joins))
