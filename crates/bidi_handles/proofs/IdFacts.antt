-- The first id of each kind, as a string.
use Rattle.std.specs.Prelude.{◌≡◌, refl, codes}
use Rattle.bidi_handles.specs.declared.id.IdKind.TheVariants.{Session, Context, Realm, Navigation, Subscription, Handle, Window, UserContext}
use Rattle.bidi_handles.specs.Ids.{id_of, id_text}
use Rattle.uuid.specs.Text.{by_index}

pub first_session : id_of Session 1 ≡ codes "00000000-0001-8000-8000-000000000001"
unfolding by_index
first_session = refl

pub first_context : id_of Context 1 ≡ codes "00000000-0002-8000-8000-000000000001"
unfolding by_index
first_context = refl

pub first_realm : id_of Realm 1 ≡ codes "00000000-0003-8000-8000-000000000001"
unfolding by_index
first_realm = refl

pub first_navigation : id_of Navigation 1 ≡ codes "00000000-0004-8000-8000-000000000001"
unfolding by_index
first_navigation = refl

pub first_subscription_of_session_one : id_text Subscription 1 1 ≡ codes "00000001-0005-8000-8000-000000000001"
unfolding by_index
first_subscription_of_session_one = refl

pub first_handle : id_of Handle 1 ≡ codes "00000000-0006-8000-8000-000000000001"
unfolding by_index
first_handle = refl

pub first_window : id_of Window 1 ≡ codes "00000000-0007-8000-8000-000000000001"
unfolding by_index
first_window = refl

pub first_user_context : id_of UserContext 1 ≡ codes "00000000-0008-8000-8000-000000000001"
unfolding by_index
first_user_context = refl

-- digits above 9 are lower-case letters
pub thousand_and_first_handle : id_of Handle 1001 ≡ codes "00000000-0006-8000-8000-0000000003e9"
unfolding by_index
thousand_and_first_handle = refl

-- the session of a subscription has eight digits, and its number twelve
pub subscription_of_session_eleven : id_text Subscription 11 281474976710655 ≡ codes "0000000b-0005-8000-8000-ffffffffffff"
unfolding by_index
subscription_of_session_eleven = refl

-- a session that is given for another kind does not show
pub handle_without_its_session : id_text Handle 7 1 ≡ codes "00000000-0006-8000-8000-000000000001"
unfolding by_index
handle_without_its_session = refl
