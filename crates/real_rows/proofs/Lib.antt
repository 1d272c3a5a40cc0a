mod Sent
