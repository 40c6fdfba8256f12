-- Worked examples of the table that stands for running scripts.
use Rattle.std.specs.Prelude.{◌≡◌, ℕ, List, [], ◌∷◌, ◌++◌, codes, zero, suc, refl}
use Prim.Native.String.{String}
use Rattle.bidi_handles.proofs.Spelling.{said}
use Rattle.bidi_sessions.specs.Step.{Step, Page, TableRow}
use Rattle.bidi_remote.specs.Machine.Sent as sent
use Rattle.machine_facts.proofs.Rows.{after, ask, begun, machine_on_literals, success, value}

-- ---- what is no row

pub row_that_fits_sends_nothing :
    after begun (value "{'text':'t','returns':{'type':'null'}}")
    ≡ []
unfolding machine_on_literals
row_that_fits_sends_nothing = refl

pub text_that_is_not_json_is_no_row :
    after begun (value "{'text'")
    ≡ sent.NoEffect ∷ []
unfolding machine_on_literals
text_that_is_not_json_is_no_row = refl

pub further_member_is_no_row :
    after begun (value "{'text':'t','returns':{'type':'null'},'x':1}")
    ≡ sent.NoEffect ∷ []
unfolding machine_on_literals
further_member_is_no_row = refl

pub row_without_an_ending_is_none :
    after begun (value "{'text':'t'}")
    ≡ sent.NoEffect ∷ []
unfolding machine_on_literals
row_without_an_ending_is_none = refl

pub row_has_one_ending :
    after begun (value "{'text':'t','returns':{'type':'null'},'argument':0}")
    ≡ sent.NoEffect ∷ []
unfolding machine_on_literals
row_has_one_ending = refl

pub negative_argument_is_no_row :
    after begun (value "{'text':'t','argument':-1}")
    ≡ sent.NoEffect ∷ []
unfolding machine_on_literals
negative_argument_is_no_row = refl

pub value_with_a_handle_is_no_row :
    after begun (value "{'text':'t','returns':{'type':'object','handle':'h'}}")
    ≡ sent.NoEffect ∷ []
unfolding machine_on_literals
value_with_a_handle_is_no_row = refl

pub value_with_an_internal_id_is_no_row :
    after begun (value "{'text':'t','returns':{'type':'object','internalId':'h'}}")
    ≡ sent.NoEffect ∷ []
unfolding machine_on_literals
value_with_an_internal_id_is_no_row = refl

pub value_with_a_handle_deep_inside_is_no_row :
    after begun (value "{'text':'t','returns':{'type':'array','value':[{'type':'set','value':[{'type':'object','handle':'h'}]}]}}")
    ≡ sent.NoEffect ∷ []
unfolding machine_on_literals
value_with_a_handle_deep_inside_is_no_row = refl

pub key_with_a_handle_is_no_row :
    after begun (value "{'text':'t','returns':{'type':'map','value':[[{'type':'array','handle':'h'},{'type':'null'}]]}}")
    ≡ sent.NoEffect ∷ []
unfolding machine_on_literals
key_with_a_handle_is_no_row = refl

pub value_of_a_pair_with_an_internal_id_is_no_row :
    after begun (value "{'text':'t','throws':{'type':'object','value':[['a',{'type':'symbol','internalId':'h'}]]}}")
    ≡ sent.NoEffect ∷ []
unfolding machine_on_literals
value_of_a_pair_with_an_internal_id_is_no_row = refl

pub key_that_is_the_text_handle_is_no_member :
    after begun (value "{'text':'t','returns':{'type':'object','value':[['handle',{'type':'null'}]]}}")
    ≡ []
unfolding machine_on_literals
key_that_is_the_text_handle_is_no_member = refl

pub row_without_effect_leaves_the_one_before :
    after (begun
    ++ value "{'text':'o','returns':{'type':'object','value':[['a',{'type':'number','value':1}]]}}"
    ∷ value "{'text':'o','returns':{'type':'object','handle':'h'}}" ∷ [])
    (ask "{'id':1,'method':'script.evaluate','params':{'awaitPromise':false,'expression':'o','target':{'context':'$c1'}}}")
    ≡ success 1 1 "{'realm':'$r1','result':{'type':'object','value':[['a',{'type':'number','value':1}]]},'type':'success'}" ∷ []
unfolding machine_on_literals
row_without_effect_leaves_the_one_before = refl

-- ---- levels

-- so many arrays round a value
abbrev pub arrays : ℕ → List ℕ → List ℕ
arrays zero inner = inner
arrays (suc n) inner = said "{'type':'array','value':[" ++ arrays n inner ++ said "]}"

-- a row that ends in 30 arrays within each other
abbrev pub thirty : List ℕ → String → Step
thirty verb inner = Page (TableRow (said "{'text':'t','" ++ verb ++ said "':" ++ arrays 29 (said inner) ++ said "}"))

pub thrown_value_of_sixty_levels_is_no_row :
    after begun (thirty (codes "throws") "{'type':'array','value':[]}")
    ≡ sent.NoEffect ∷ []
unfolding machine_on_literals
thrown_value_of_sixty_levels_is_no_row = refl

pub thrown_value_of_fifty_nine_levels_is_a_row :
    after begun (thirty (codes "throws") "{'type':'array'}")
    ≡ []
unfolding machine_on_literals
thrown_value_of_fifty_nine_levels_is_a_row = refl

pub returned_value_of_sixty_levels_is_a_row :
    after begun (thirty (codes "returns") "{'type':'array','value':[]}")
    ≡ []
unfolding machine_on_literals
returned_value_of_sixty_levels_is_a_row = refl

pub returned_value_of_sixty_one_levels_does_not_fit :
    after begun (thirty (codes "returns") "{'type':'array','value':[{'type':'array'}]}")
    ≡ sent.NoEffect ∷ []
unfolding machine_on_literals
returned_value_of_sixty_one_levels_does_not_fit = refl

pub thrown_value_of_fifty_nine_levels_is_told :
    after (begun ++ thirty (codes "throws") "{'type':'array'}" ∷ [])
    (ask "{'id':1,'method':'script.evaluate','params':{'awaitPromise':false,'expression':'t','target':{'context':'$c1'}}}")
    ≡ sent.Text 1 (said "{'id':1,'result':{'exceptionDetails':{'columnNumber':0,'exception':" ++ arrays 29 (said "{'type':'array'}")
    ++ said ",'lineNumber':0,'stackTrace':{'callFrames':[]},'text':'thrown'},'realm':'$r1','type':'exception'},'type':'success'}") ∷ []
unfolding machine_on_literals
thrown_value_of_fifty_nine_levels_is_told = refl
